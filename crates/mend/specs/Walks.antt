-- One contour is walked: what is asked for, and what is left. Definitions only.
use Rattle.std.specs.Prelude.{◌≡◌, Bool, cond, List, ℕ, ◌+◌, ◌*◌, ◌≤◌, length, drop}
use Rattle.mem.specs.Slice.{view}
use Rattle.rules.specs.Job.{job_stride}
use Rattle.rules.specs.MendCall.{vertices_most}
use Rattle.laws.specs.MendWalked.{walked_by}
use Rattle.mend.specs.declared.ends.Span.{Span}
use Rattle.mend.specs.Walking.{listed}

-- the contour is there, the scratch has a word for each point, no number is too great, and, where something is written, there is room for all that is lost
pub record WalkReady (t : Bool) (ns ls ws : List ℕ) (first n lost : ℕ) : Type 0 where
  pub fits : n ≤ length ws
  pub small : first + n ≤ vertices_most
  pub few : lost ≤ first
  pub inside : (first + n) * job_stride ≤ length ns
  pub room : cond t (lost + length (walked_by t ns first n).lost) 0 ≤ length ls

pub record WalkLeft (t : Bool) (first n from : ℕ) (r : Span) (ns ls ws ns' ls' ws' : List ℕ) : Type 0 where
  pub left : view ws' r.lo r.n ≡ (walked_by t ns first n).left
  pub count : r.n ≡ length (walked_by t ns first n).left
  pub within : r.lo + r.n ≤ length ws'
  pub lost : r.lost ≡ from + length (walked_by t ns first n).lost
  pub numbers : ns' ≡ (walked_by t ns first n).numbers
  pub list : ls' ≡ listed t ls from (walked_by t ns first n).lost
  pub rest : drop n ws' ≡ drop n ws
  pub size : length ws' ≡ length ws
