-- Request 12, as the code has it: numbers that stay within a contour, and lists that grow with each point that is passed. Definitions only.
use Rattle.std.specs.Prelude.{ℕ, ◌+◌, ◌*◌, ◌≤◌, ◌<◌, ◌≡◌, List, length, take, drop}
use Rattle.rules.specs.Job.{job_stride}
use Rattle.laws.specs.Lists.{All}
use Rattle.laws.specs.MendPass.{Passing}
use Rattle.laws.specs.MendEnds.{Ending}

-- numbers that change between the vertices `first` and e alone
pub record Outside (first e : ℕ) (ns ms : List ℕ) : Type 0 where
  pub size : length ms ≡ length ns
  pub before : take (first * job_stride) ms ≡ take (first * job_stride) ns
  pub behind : drop (e * job_stride) ms ≡ drop (e * job_stride) ns

-- some numbers are on the stack, all of them of this contour, and no other contour has changed
pub record Fine (first e : ℕ) (ns : List ℕ) (w : Passing) : Type 0 where
  pub some : 1 ≤ length w.stack
  pub low : All (λ k. first ≤ k) w.stack
  pub high : All (λ k. k < e) w.stack
  pub outside : Outside first e ns w.numbers

-- each point that is passed is on the stack or on the list
pub record Grows (w v : Passing) : Type 0 where
  pub count : length v.stack + length v.lost ≡ length w.stack + length w.lost + 1
  pub lost : length w.lost ≤ length v.lost

-- what is left lies within the stack, whose numbers are all of this contour, and no other contour has changed
pub record FineEnds (first e : ℕ) (ns st : List ℕ) (w : Ending) : Type 0 where
  pub within : w.lo + w.n ≤ length st
  pub low : All (λ k. first ≤ k) st
  pub high : All (λ k. k < e) st
  pub outside : Outside first e ns w.numbers
