-- One point is lost: what is asked for, and what is left. Definitions only.
use Rattle.std.specs.Prelude.{◌≡◌, Bool, cond, List, ℕ, ◌+◌, ◌*◌, ◌≤◌, length, set}
use Rattle.rules.specs.Job.{job_stride}
use Rattle.rules.specs.MendCall.{vertices_most}
use Rattle.laws.specs.MendNumbers.{carried_if}

-- the vertices p and q are among the numbers
pub record BothIn (ns : List ℕ) (p q : ℕ) : Type 0 where
  pub one : p * job_stride + job_stride ≤ length ns
  pub other : q * job_stride + job_stride ≤ length ns

-- and, where something is written, there is room for a number more
pub record LoseReady (writes : Bool) (ns ls : List ℕ) (lost p q : ℕ) : Type 0 where
  pub both : BothIn ns p q
  pub small : q ≤ vertices_most
  pub room : cond writes (lost + 1) 0 ≤ length ls

pub record Lost (writes : Bool) (ns ls ns' ls' : List ℕ) (lost p q : ℕ) : Type 0 where
  pub numbers : ns' ≡ carried_if writes ns p q
  pub list : ls' ≡ cond writes (set ls lost q) ls
