-- What holds of a mesh as vertices are removed from it, and the bounds of one that is built. Definitions only.
use Rattle.std.specs.Prelude.{ℕ, ◌+◌, ◌≤◌, ◌≡◌, length, ℤ, ◌-ℤ◌}
use mathlib.Core.List.{List}
use Rattle.rules.specs.Mesh.{Mesh}
use Rattle.rules.specs.Removal.{Removal}
use Rattle.rules.specs.Job.{Job, count_v, count_t}
use Rattle.rules.specs.Areas.{sum_of, mesh_area, area_taken}
use Rattle.laws.specs.Measures.{spares_in, taken_by}
use Rattle.laws.specs.Lists.{total}
use Rattle.laws.specs.Removal.{Sound}

-- what holds of the mesh m and the log, where the contours had the area z, t spare corners and v vertices
pub record Balanced (nvp : ℕ) (z : ℤ) (t v : ℕ) (m : Mesh) (log : List Removal) : Type 0 where
  pub areas : mesh_area m ≡ z -ℤ sum_of area_taken log
  pub spares : spares_in m.polygons + total taken_by log ≡ t
  pub vertices : length m.vertices ≤ v
  pub sound : Sound nvp m

-- the bounds that the output buffers have: T polygons, each of at most nvp corners, and V vertices
pub record Bounded (j : Job) (m : Mesh) : Type 0 where
  pub polygons : length m.polygons ≤ count_t j
  pub vertices : length m.vertices ≤ count_v j
  pub sound : Sound j.nvp m
