-- Text as sheets have it: lines ended by LF, cells parted by tabs, decimals without leading zeros. A text is the list of its bytes. Definitions only.
use Rattle.std.specs.Prelude.{Bool, true, false, not, ◌&&◌, ◌||◌, cond, List, [], ◌∷◌, ◌++◌, ℕ, zero, suc, ◌+◌, ◌-◌, ◌*◌, ◌/◌, ◌%◌, eqb, leb, ltb, ℤ, pos, negsuc, neg_ℤ, Option, Some, None}
use Prim.Native.Char.{code}
use Prim.Native.String.{String}
use Rattle.mem.specs.Packed.{packed}

-- the bytes of a quoted text
unfoldable pub ascii : String → List ℕ
ascii String.[] = []
ascii (String.◌∷◌ c cs) = code c ∷ ascii cs

-- a tab, and LF
abbrev pub tab_byte : ℕ
tab_byte = 9

abbrev pub lf : ℕ
lf = 10

unfoldable pub is_empty : List ℕ → Bool
is_empty [] = true
is_empty (c ∷ cs) = false

-- whether two texts are the same
unfoldable pub is_same_text : List ℕ → List ℕ → Bool
is_same_text [] [] = true
is_same_text [] (d ∷ ds) = false
is_same_text (c ∷ cs) [] = false
is_same_text (c ∷ cs) (d ∷ ds) = eqb c d && is_same_text cs ds

-- ---- lines and cells

-- c in front of the first part
unfoldable pub on_first : ℕ → List (List ℕ) → List (List ℕ)
on_first c [] = (c ∷ []) ∷ []
on_first c (p ∷ ps) = (c ∷ p) ∷ ps

-- what stands between the bytes b of a text: one part more than there are such bytes
unfoldable pub parts : ℕ → List ℕ → List (List ℕ)
parts b [] = [] ∷ []
parts b (c ∷ cs) = elim (eqb c b) [
  | true ↦ [] ∷ parts b cs
  | false ↦ on_first c (parts b cs)
]

-- a line is its cells. "lines .. tab-parted"
abbrev pub Line : Type 0
Line = List (List ℕ)

-- "each ended by LF": what stands behind the last LF is no line if it is empty. Otherwise it is a line without cells, and no reader takes such a line
unfoldable pub whole_lines : List (List ℕ) → List Line
whole_lines [] = []
whole_lines (l ∷ []) = cond (is_empty l) [] ([] ∷ [])
whole_lines (l ∷ (m ∷ ms)) = parts tab_byte l ∷ whole_lines (m ∷ ms)

unfoldable pub lines_of : List ℕ → List Line
lines_of text = whole_lines (parts lf text)

-- ---- decimals that are read

-- `0` to `9` are the bytes 48 to 57
unfoldable pub is_digit : ℕ → Bool
is_digit c = leb 48 c && leb c 57

unfoldable pub are_digits : List ℕ → Bool
are_digits [] = true
are_digits (c ∷ cs) = is_digit c && are_digits cs

-- "decimals without leading zeros": digits, at least one, and a 0 in front only if it is all
unfoldable pub is_decimal : List ℕ → Bool
is_decimal [] = false
is_decimal (c ∷ cs) = are_digits (c ∷ cs) && (not (eqb c 48) || is_empty cs)

-- the number that digits say, v being what the digits before them say
unfoldable pub value_from : ℕ → List ℕ → ℕ
value_from v [] = v
value_from v (c ∷ cs) = value_from (v * 10 + (c - 48)) cs

-- the number that a cell says, if it is a decimal from `least` to `most`
unfoldable pub decimal_in : ℕ → ℕ → List ℕ → Option ℕ
decimal_in least most cell =
    let v = value_from 0 cell in
    cond (is_decimal cell && (leb least v && leb v most)) (Some v) None

-- the whole number that a cell says: a decimal up to `most`, or `-` and one that is not 0
unfoldable pub whole_from : (ℕ → ℤ) → Option ℕ → Option ℤ
whole_from sign (Some n) = Some (sign n)
whole_from sign None = None

unfoldable pub signed_in : ℕ → List ℕ → Option ℤ
signed_in most [] = None
signed_in most (c ∷ cs) = elim (eqb c 45) [
  | true ↦ whole_from (λ n. neg_ℤ (pos n)) (decimal_in 1 most cs)
  | false ↦ whole_from pos (decimal_in 0 most (c ∷ cs))
]

-- ---- lines of numbers that are read

pub data Numbers : Type 0 where
  numbers : List ℕ → Numbers
  malformed : Numbers

unfoldable pub with_number : ℕ → Numbers → Numbers
with_number n (numbers ns) = numbers (n ∷ ns)
with_number n malformed = malformed

-- a decimal in each cell: as many as there are limits, each from `least` to its own limit
unfoldable pub numbers_in : ℕ → List ℕ → Line → Numbers
numbers_in least [] [] = numbers []
numbers_in least [] (c ∷ cs) = malformed
numbers_in least (m ∷ ms) [] = malformed
numbers_in least (m ∷ ms) (c ∷ cs) = elim (decimal_in least m c) [
  | Some n ↦ with_number n (numbers_in least ms cs)
  | None ↦ malformed
]

-- the numbers of a line whose first cell is this name
unfoldable pub numbers_of : List ℕ → ℕ → List ℕ → Line → Numbers
numbers_of name least mosts [] = malformed
numbers_of name least mosts (c ∷ cs) = elim (is_same_text c name) [
  | true ↦ numbers_in least mosts cs
  | false ↦ malformed
]

-- ---- what is printed

-- a number of at most f digits, without leading zeros
unfoldable pub digits_of : ℕ → ℕ → List ℕ
digits_of zero n = []
digits_of (suc f) n = elim (ltb n 10) [
  | true ↦ (48 + n) ∷ []
  | false ↦ digits_of f (n / 10) ++ ((48 + n % 10) ∷ [])
]

-- every number here has at most 64 bits, and so at most 20 digits
unfoldable pub decimal : ℕ → List ℕ
decimal n = digits_of 20 n

-- a number with its sign, `-` in front if it is below zero
unfoldable pub signed : ℤ → List ℕ
signed (pos n) = decimal n
signed (negsuc n) = 45 ∷ decimal (suc n)

-- a cell that is not the first of its line, with the tab in front of it
unfoldable pub cell : ℕ → List ℕ
cell n = tab_byte ∷ decimal n

unfoldable pub signed_cell : ℤ → List ℕ
signed_cell z = tab_byte ∷ signed z

-- a line of a name and of numbers
unfoldable pub number_line : List ℕ → List ℕ → List ℕ
number_line name ns = name ++ (packed cell ns ++ (lf ∷ []))
