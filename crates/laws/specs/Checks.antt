-- Replies 1 to 6: what a job that passes the checks is, what it means that its counts agree, and what a contour adds to V and to T. Definitions only.
use Rattle.std.specs.Prelude.{ℕ, ◌-◌, ◌*◌, ◌≤◌, ◌<◌, ◌≡◌, true, cond, List, leb, length, get_or}
use Rattle.rules.specs.Plane.{on_plane, InGrid}
use Rattle.rules.specs.Job.{Job, job_stride, vertex_at, flag_at, count_all, count_v}
use Rattle.rules.specs.Checks.{counts_agree, least_lengths}

-- what a job that passes the checks is, where ls are the lengths of the lent buffers
pub record Passed (j : Job) (ls : List ℕ) : Type 0 where
  pub nvp_low : 3 ≤ j.nvp
  pub nvp_high : j.nvp ≤ 12
  pub agree : counts_agree j ≡ true
  pub grid : (k : ℕ) → k < count_all j → InGrid (on_plane (vertex_at j.numbers k))
  pub flags : (k : ℕ) → k < count_all j → flag_at j.numbers k ≤ 1
  pub few : count_v j ≤ 65535
  pub room : (k : ℕ) → k < length (least_lengths j) → get_or (least_lengths j) k 0 ≤ get_or ls k 0

-- what it means that the counts agree
pub record Agreed (j : Job) : Type 0 where
  pub regions : length j.regions ≡ length j.lengths
  pub codes : length j.codes ≡ length j.lengths
  pub numbers : length j.numbers ≡ count_all j * job_stride
  pub contours : length j.lengths ≤ 65535

-- the counts: what contour c adds to V and to T
abbrev pub points_in : List ℕ → ℕ → ℕ
points_in ls c = cond (leb 3 (get_or ls c 0)) (get_or ls c 0) 0

abbrev pub triangles_in : List ℕ → ℕ → ℕ
triangles_in ls c = cond (leb 3 (get_or ls c 0)) (get_or ls c 0 - 2) 0
