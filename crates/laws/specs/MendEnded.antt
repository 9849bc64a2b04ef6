-- Request 12, as the code has it: ends that lie within the stack, and the ends of a whole contour once its walk is done. Definitions only.
use Rattle.std.specs.Prelude.{ℕ, ◌+◌, ◌≤◌, Bool, List, length}
use Rattle.laws.specs.MendNumbers.{Sound}
use Rattle.laws.specs.MendPass.{Passing}
use Rattle.laws.specs.MendEnds.{Ending, part_of, ends_by}

-- what is left lies within the stack, rises, and has its numbers
pub record SoundEnds (st : List ℕ) (w : Ending) : Type 0 where
  pub within : w.lo + w.n ≤ length st
  pub sound : Sound (part_of st w)

-- the whole contour: one walk, then the ends
unfoldable pub end_start : Passing → Ending
end_start w = record { lo = 0; n = length w.stack; lost = w.lost; numbers = w.numbers }

-- and as many turns at the ends as there are numbers left
unfoldable pub ended_all : Bool → Passing → Ending
ended_all writes w = ends_by writes (length w.stack) w.stack (end_start w)
