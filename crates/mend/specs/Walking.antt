-- The points of a contour are passed: what stands in memory, what is asked for, and what is left. Definitions only.
use Rattle.std.specs.Prelude.{◌≡◌, Bool, cond, List, ℕ, ◌+◌, ◌-◌, ◌*◌, ◌≤◌, ◌<◌, length, take, drop}
use Rattle.mem.specs.Slice.{splice}
use Rattle.rules.specs.Job.{job_stride}
use Rattle.rules.specs.MendCall.{vertices_most}
use Rattle.laws.specs.Lists.{All}
use Rattle.laws.specs.MendPass.{Passing, joining, losing, turning, pass}
use Rattle.laws.specs.MendWalk.{passed_all}
use Rattle.mend.specs.declared.pass.Walk.{Walk}
use Rattle.mend.specs.declared.pass.Meets.{Meets}
use Rattle.mend.specs.declared.pass.Meets.TheVariants.{Top, Second, Neither}

-- the list with the lost numbers from `from` on, where something is written
unfoldable pub listed : Bool → List ℕ → ℕ → List ℕ → List ℕ
listed writes ls from lost = cond writes (splice ls from lost) ls

-- what a walk began with: whether it writes, the list and where it goes on, the scratch and how much of it may be used
pub record Begun : Type 0 where
  pub writes : Bool
  pub list : List ℕ
  pub from : ℕ
  pub work : List ℕ
  pub most : ℕ

-- the state w of the walk as it stands in memory
pub record Stands (b : Begun) (w : Passing) (ns ls ws : List ℕ) (at : Walk) : Type 0 where
  pub tall : at.top ≡ length w.stack
  pub stack : take at.top ws ≡ w.stack
  pub lost : at.lost ≡ b.from + length w.lost
  pub numbers : ns ≡ w.numbers
  pub list : ls ≡ listed b.writes b.list b.from w.lost
  pub rest : drop b.most ws ≡ drop b.most b.work
  pub size : length ws ≡ length b.work

-- ---- where the point j is met

-- the numbers on the stack, and those up to e, are of vertices that are there
pub record MeetsReady (ns ws : List ℕ) (top e j : ℕ) : Type 0 where
  pub some : 1 ≤ top
  pub room : top ≤ length ws
  pub high : All (λ k. k < e) (take top ws)
  pub next : j < e
  pub inside : e * job_stride ≤ length ns

-- the state of which only the stack's height and the numbers are known
abbrev pub state_of : List ℕ → List ℕ → ℕ → List ℕ → Passing
state_of ns ws top lost = record { stack = take top ws; lost = lost; numbers = ns }

-- what the pass comes to
unfoldable pub Met : Meets → List ℕ → List ℕ → ℕ → ℕ → ℕ → Type 0
Met Top ns ws top e j = (t : Bool) (lost : List ℕ) → pass t e j (state_of ns ws top lost) ≡ losing t j (state_of ns ws top lost)
Met Second ns ws top e j = (2 ≤ top) × ((t : Bool) (lost : List ℕ) → pass t e j (state_of ns ws top lost) ≡ turning t j (state_of ns ws top lost))
Met Neither ns ws top e j = (t : Bool) (lost : List ℕ) → pass t e j (state_of ns ws top lost) ≡ joining j (state_of ns ws top lost)

-- ---- the point j is passed

pub record PassReady (writes : Bool) (ns ls ws : List ℕ) (e j : ℕ) (at : Walk) : Type 0 where
  pub begun : Begun
  pub state : Passing
  pub is : begun.writes ≡ writes
  pub stands : Stands begun state ns ls ws at
  pub meets : MeetsReady ns ws at.top e j
  pub small : e ≤ vertices_most
  pub few : at.lost ≤ vertices_most
  pub fits : at.top < length ws
  pub room : cond writes (begun.from + length (pass writes e j state).lost) 0 ≤ length ls

pub record Passed (writes : Bool) (e j : ℕ) (at r : Walk) (ns ls ws ns' ls' ws' : List ℕ) : Type 0 where
  pub stands : (b : Begun) (w : Passing) → b.writes ≡ writes → at.top < b.most → Stands b w ns ls ws at → Stands b (pass writes e j w) ns' ls' ws' r

-- ---- all points from `first` up to e are passed

pub record AllReady (writes : Bool) (ns ls ws : List ℕ) (first e lost : ℕ) : Type 0 where
  pub some : first < e
  pub fits : e ≤ first + length ws
  pub small : e ≤ vertices_most
  pub few : lost ≤ first
  pub inside : e * job_stride ≤ length ns
  pub room : cond writes (lost + length (passed_all writes ns first (e - first)).lost) 0 ≤ length ls

pub record AllPassed (writes : Bool) (first e lost : ℕ) (r : Walk) (ns ls ws ns' ls' ws' : List ℕ) : Type 0 where
  pub stands : Stands (record { writes = writes; list = ls; from = lost; work = ws; most = e - first }) (passed_all writes ns first (e - first)) ns' ls' ws' r
  pub count : r.top + length (passed_all writes ns first (e - first)).lost ≡ e - first
