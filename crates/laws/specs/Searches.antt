-- A search for the highest number that fits, along a chain on which all that fit have one key. Definitions only.
use Rattle.std.specs.Prelude.{◌≡◌, Bool, Option, None}
use Prim.Native.Nat.{ℕ, ◌≤◌}
use Rattle.mem.specs.Chain.{highest}
use Rattle.rules.specs.Lists.{when, or_else, down}

-- the highest number below n that fits
abbrev pub found : (ℕ → Bool) → ℕ → Option ℕ
found test n = down None or_else (λ k. when (test k) k) n

-- `link` is the word of the next number to look at: the highest one with the key b below m
pub record Walk (test : ℕ → Bool) (key : ℕ → ℕ) (b n link : ℕ) : Type 0 where
  pub m : ℕ
  pub within : m ≤ n
  pub at : link ≡ highest key b m
  pub same : found test n ≡ found test m
