-- Request 12, as the code has it: the same walk, and the same ends, with other numbers or more behind them. Definitions only.
use Prim.Native.Nat.{ℕ}
use Rattle.std.specs.Prelude.{◌≡◌, List, ◌++◌}
use Rattle.laws.specs.MendNumbers.{same_place}
use Rattle.laws.specs.MendPass.{Passing}
use Rattle.laws.specs.MendEnds.{Ending}

-- numbers whose places agree
abbrev pub Placed : List ℕ → List ℕ → Type 0
Placed ns ms = (a b : ℕ) → same_place ns a b ≡ same_place ms a b

-- the same, with the numbers ns
unfoldable pub with_numbers : List ℕ → Passing → Passing
with_numbers ns w = record { stack = w.stack; lost = w.lost; numbers = ns }

-- the same ends, with the numbers ns
unfoldable pub ends_with : List ℕ → Ending → Ending
ends_with ns w = record { lo = w.lo; n = w.n; lost = w.lost; numbers = ns }

-- and with l in front of the list
unfoldable pub behind : List ℕ → Ending → Ending
behind l w = record { lo = w.lo; n = w.n; lost = l ++ w.lost; numbers = w.numbers }
