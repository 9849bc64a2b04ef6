-- A number for which a test holds. Definitions only.
use Rattle.std.specs.Prelude.{ℕ, ◌<◌, ◌≡◌, Bool, true}

-- one for which the test holds
pub record One (test : ℕ → Bool) (n : ℕ) : Type 0 where
  pub k : ℕ
  pub below : k < n
  pub holds : test k ≡ true
