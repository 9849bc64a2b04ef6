-- R4's shared side: sides of two lists of corners. Definitions only.
use Rattle.std.specs.Prelude.{Option, Some, None}
use Prim.Native.Nat.{ℕ, ◌<◌}

-- sides of lists of so many corners
unfoldable pub SidesIn : ℕ → ℕ → Option (ℕ × ℕ) → Type 0
SidesIn la lb (Some (i, j)) = (i < la) × (j < lb)
SidesIn la lb None = Unit
