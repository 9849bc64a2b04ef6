-- A search for the lowest number that passes a test, as a loop from 0 up makes it, and the number that is the lowest. Definitions only.
use Prim.Native.Nat.{ℕ, ◌≤◌, ◌<◌}
use Rattle.std.specs.Prelude.{◌≡◌, Bool, true, Option, None}
use Rattle.std.proofs.Math.Bool.{false}
use Rattle.mem.specs.Loops.{over}
use Rattle.rules.specs.Lists.{when, or_else}

-- the lowest number below n that passes
abbrev pub first : (ℕ → Bool) → ℕ → Option ℕ
first test n = over None or_else (λ k. when (test k) k) 0 n

-- k is the lowest from i up to n that passes
pub record Lowest (test : ℕ → Bool) (i n k : ℕ) : Type 0 where
  pub low : i ≤ k
  pub high : k < n
  pub is : test k ≡ true
  pub before : (j : ℕ) → i ≤ j → j < k → test j ≡ false
