-- Request 12, the quick way: a stack of places within which no rule applies. Definitions only.
use Rattle.std.specs.Prelude.{ℕ, ◌+◌, ◌<◌, ◌≡◌, false, List}
use Rattle.rules.specs.declared.Point.{Point}
use Rattle.laws.specs.MendQuick.{meet}

-- the stack: s places within which no rule applies
pub record Clean (l : List Point) (s : ℕ) : Type 0 where
  pub ones : (i : ℕ) → i + 1 < s → meet l i (i + 1) ≡ false
  pub twos : (i : ℕ) → i + 2 < s → meet l i (i + 2) ≡ false
