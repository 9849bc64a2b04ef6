-- The longest of many pairs, the first of equal ones: what R4's search comes to. Definitions only.
use Rattle.std.specs.Prelude.{◌≡◌, ◌⊎◌}
use Prim.Native.Nat.{ℕ, ◌≤◌, ◌<◌}
use Rattle.rules.specs.Merge.{no_pair}
use Rattle.rules.specs.declared.Pair.{Pair}

-- the first of the longest of f i, f (i + 1), .. up to f (n - 1), where one is longer than 0
pub record Never (f : ℕ → Pair) (i n : ℕ) (m : Pair) : Type 0 where
  pub is : m ≡ no_pair
  pub all : (j : ℕ) → i ≤ j → j < n → (f j).length ≡ 0

pub record First (f : ℕ → Pair) (i n : ℕ) (m : Pair) : Type 0 where
  pub at : ℕ
  pub from : i ≤ at
  pub to : at < n
  pub is : m ≡ f at
  pub some : 0 < m.length
  pub before : (j : ℕ) → i ≤ j → j < at → (f j).length < m.length
  pub most : (j : ℕ) → i ≤ j → j < n → (f j).length ≤ m.length

abbrev pub Best : (ℕ → Pair) → ℕ → ℕ → Pair → Type 0
Best f i n m = Never f i n m ⊎ First f i n m

-- the length of a pair
abbrev pub size : Pair → ℕ
size m = m.length
