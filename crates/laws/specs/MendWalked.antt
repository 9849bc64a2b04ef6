-- Request 12, as the code has it: a contour is walked once over its numbers, and then its ends are seen to. Definitions only.
use Prim.Native.Nat.{ℕ, zero, suc, ◌+◌, ◌≤◌, ◌<◌}
use Rattle.std.specs.Prelude.{◌≡◌, Bool, List, []}
use Rattle.laws.specs.Lists.{All}
use Rattle.laws.specs.MendNumbers.{Numbered}
use Rattle.laws.specs.MendWalk.{passed_all}
use Rattle.laws.specs.MendEnds.{part_of}
use Rattle.laws.specs.MendEnded.{ended_all}
use Rattle.laws.specs.MendWithin.{Outside}

-- what a walk over the n points from the vertex `first` on leaves
unfoldable pub walked_by : Bool → List ℕ → ℕ → ℕ → Numbered
walked_by t ns first zero = record { left = []; lost = []; numbers = ns }
walked_by t ns first (suc r) = let w = passed_all t ns first (suc r) in part_of w.stack (ended_all t w)

-- what is left is of this contour, and no other has changed
pub record Walked (first n : ℕ) (ns : List ℕ) (w : Numbered) : Type 0 where
  pub low : All (λ k. first ≤ k) w.left
  pub high : All (λ k. k < first + n) w.left
  pub outside : Outside first (first + n) ns w.numbers

pub record Dry (ns : List ℕ) (v w : Numbered) : Type 0 where
  pub left : v.left ≡ w.left
  pub lost : v.lost ≡ w.lost
  pub numbers : v.numbers ≡ ns
