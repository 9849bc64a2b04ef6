-- The places of a contour's vertices, and what the functions that lay them out and cut them ask for. Definitions only.
use Rattle.std.specs.Prelude.{List, map, ℕ, ◌+◌, ◌-◌, ◌*◌, ◌^◌, ◌≤◌, ◌<◌, length}
use Rattle.rules.specs.Plane.{on_plane, InGrid}
use Rattle.rules.specs.Job.{job_stride, vertex_at, contour_vertices}
use Rattle.rules.specs.declared.Point.{Point}

-- where the n vertices from `first` on stand, of a job's numbers ns
abbrev pub places_in : List ℕ → ℕ → ℕ → List Point
places_in ns first n = map on_plane (contour_vertices ns first n)

-- the numbers have those vertices, and there is room for their places at po
pub record LayReady (w ns : List ℕ) (first n po : ℕ) : Type 0 where
  pub input : (first + n) * job_stride ≤ length ns
  pub fits : po + n * 2 ≤ length w

-- they are three or more, on the grid, and there is room to cut them at po
pub record CutReady (w ns : List ℕ) (first n po : ℕ) : Type 0 where
  pub lay : LayReady w ns first n po
  pub some : 3 ≤ n
  pub few : n < 2 ^ 28
  pub room : po + (n * 6 - 6) ≤ length w
  pub grid : (k : ℕ) → k < n → InGrid (on_plane (vertex_at ns (first + k)))
