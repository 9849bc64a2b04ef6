-- Floats that are a zero, and those that are finite. Definitions only.
use Rattle.std.specs.Prelude.{Bool, ℕ, ℤ, pos, Float}
use Rattle.std.specs.Float.{fin}

-- a zero of either sign
pub data IsZero : Float → Type 0 where
  is_zero : (s : Bool) → IsZero (fin s 0 (pos 0))

-- a finite value
pub data IsFinite : Float → Type 0 where
  is_finite : (s : Bool) (m : ℕ) (e : ℤ) → IsFinite (fin s m e)
