-- The points that are kept close up: what is asked for. Definitions only.
use Rattle.std.specs.Prelude.{ℕ, ◌+◌, ◌*◌, ◌≤◌, ◌<◌, List, length, get_or}
use Rattle.rules.specs.Job.{job_stride}

-- each vertex is there, and its new place is not above the old one
pub record CloseReady (ns kept : List ℕ) (to : ℕ) : Type 0 where
  pub inside : (i : ℕ) → i < length kept → get_or kept i 0 * job_stride + job_stride ≤ length ns
  pub down : (i : ℕ) → i < length kept → to + i ≤ get_or kept i 0
