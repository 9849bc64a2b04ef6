-- That the numbers of lent lists fit the words that they are lent in: true of any lists. Definitions only.
use Rattle.std.specs.Prelude.{List, ℕ, ◌^◌, ◌<◌, get_or}

pub record WordsFit (ls rs cs ns : List ℕ) : Type 0 where
  pub lengths : (k : ℕ) → get_or ls k 0 < 2 ^ 32
  pub regions : (k : ℕ) → get_or rs k 0 < 2 ^ 16
  pub codes : (k : ℕ) → get_or cs k 0 < 2 ^ 8
  pub numbers : (k : ℕ) → get_or ns k 0 < 2 ^ 16
