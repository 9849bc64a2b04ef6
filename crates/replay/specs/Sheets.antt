-- Where a sheet ends in a file of sheets. Definitions only.
use Rattle.std.specs.Prelude.{◌≡◌, Bool, true, false, ◌&&◌, List, ℕ, ◌-◌, ◌≤◌, ◌<◌, eqb, length, get_or}

-- an empty line ends at i: it has a line end, and one before it
unfoldable pub is_gap : List ℕ → ℕ → Bool
is_gap text i = eqb (get_or text i 0) 10 && eqb (get_or text (i - 1) 0) 10

-- r is where the sheet that begins at `at` ends: the first empty line behind that, or the end of the text. There is one such r
pub record EndsAt (text : List ℕ) (at r : ℕ) : Type 0 where
  pub behind : at < r
  pub within : r ≤ length text
  pub gap : r < length text → is_gap text r ≡ true
  pub first : (j : ℕ) → at < j → j < r → is_gap text j ≡ false
