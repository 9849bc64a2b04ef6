-- Request 12, as the code has it: all numbers of a contour are passed, and then only the ends are left to see to. Definitions only.
use Rattle.std.specs.Prelude.{ℕ, ◌+◌, ◌≤◌, Bool, List, [], ◌∷◌, length}
use Rattle.mem.specs.Loops.{each}
use Rattle.rules.specs.Mend.{Mending}
use Rattle.laws.specs.Mend.{left_in}
use Rattle.laws.specs.MendQuick.{ends_loop}
use Rattle.laws.specs.MendNumbers.{mending_of, Sound}
use Rattle.laws.specs.MendPass.{Passing, pass}
use Rattle.laws.specs.MendPass.{left_of}

-- what is left is sound, and some numbers are on the stack
pub record Sure (j r : ℕ) (w : Passing) : Type 0 where
  pub some : 1 ≤ length w.stack
  pub sound : Sound (left_of j r w)

-- all numbers are passed, and then the ends are seen to
unfoldable pub finished : Passing → Mending
finished w = let m = mending_of (left_of 0 0 w) in ends_loop (left_in m) m

-- the whole contour of n points from the vertex `first` on
unfoldable pub pass_start : List ℕ → ℕ → Passing
pass_start ns first = record { stack = first ∷ []; lost = []; numbers = ns }

unfoldable pub passed_all : Bool → List ℕ → ℕ → ℕ → Passing
passed_all writes ns first n = each (pass writes (first + n)) (first + 1) (first + n) (pass_start ns first)
