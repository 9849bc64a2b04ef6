-- What the readers of lines answer, case by case. Definitions only.
use Rattle.std.specs.Prelude.{◌≡◌, Bool, true, false, List, [], ◌∷◌, ◌++◌, ℕ, ◌+◌, ◌-◌, ◌≤◌, ◌<◌, length, take, drop, get_or, Option, Some, None}
use Rattle.mem.specs.Slice.{splice}
use Rattle.mem.specs.Zeros.{with_zeros}
use Rattle.rules.specs.Lines.{tab_byte, lf, is_same_text, parts, Line, lines_of, decimal_in, Numbers, numbers, malformed, numbers_of}
use Rattle.lines.specs.declared.line.LineRead.{LineRead}
use Rattle.lines.specs.Scan.{place_of}

-- ---- a line of numbers

-- whether there are numbers
unfoldable pub are_numbers : Numbers → Bool
are_numbers (numbers ns) = true
are_numbers malformed = false

-- the numbers of the cells up to the first bad one: all of them, if they are `numbers_in`
unfoldable pub good_in : ℕ → List ℕ → Line → List ℕ
good_in least [] cs = []
good_in least (m ∷ ms) [] = []
good_in least (m ∷ ms) (c ∷ cs) = elim (decimal_in least m c) [
  | Some n ↦ n ∷ good_in least ms cs
  | None ↦ []
]

-- the same of a line, whose first cell has to be this name
unfoldable pub good_of : List ℕ → ℕ → List ℕ → Line → List ℕ
good_of name least mosts [] = []
good_of name least mosts (c ∷ cs) = elim (is_same_text c name) [
  | true ↦ good_in least mosts cs
  | false ↦ []
]

-- a line was read: whether it is good, and its numbers at the beginning of the words v, which became w
pub record RowRead (name : List ℕ) (least : ℕ) (mosts : List ℕ) (l : Line) (r : Bool) (v w : List ℕ) : Type 0 where
  pub good : r ≡ are_numbers (numbers_of name least mosts l)
  pub put : w ≡ splice v 0 (good_of name least mosts l)

-- the last cell of a line begins at p
pub record LastCell (line : List ℕ) (p : ℕ) : Type 0 where
  pub within : p ≤ length line
  pub alone : p ≡ 0 → parts tab_byte line ≡ line ∷ []
  pub behind : 0 < p → parts tab_byte line ≡ parts tab_byte (take (p - 1) line) ++ (drop p line ∷ [])

-- ---- a line of numbers, and where it ends

-- what a line says: its numbers, or none if it is malformed
unfoldable pub said : Numbers → Option (List ℕ)
said (numbers ns) = Some ns
said malformed = None

-- the same with zeros behind the numbers, n in all
unfoldable pub widened : ℕ → Numbers → Numbers
widened n (numbers ns) = numbers (with_zeros n ns)
widened n malformed = malformed

-- the place behind the LF that ends the line at p
unfoldable pub line_end : List ℕ → ℕ → ℕ
line_end text p = p + place_of lf (drop p text) + 1

-- these numbers, and this place behind them
abbrev pub reads : {N : ℕ} → List ℕ → ℕ → LineRead N
reads ns e = record { numbers = ns; next = e }

-- a line that is read at p: its numbers and the place behind it. Nothing is read of a malformed line
unfoldable pub line_read : {N : ℕ} → List ℕ → ℕ → Numbers → Option (LineRead N)
line_read text p (numbers ns) = Some (reads ns (line_end text p))
line_read text p malformed = None

-- the numbers of the line at p; a line that is missing, or that no LF ends, has none
unfoldable pub numbers_at : List ℕ → ℕ → List ℕ → ℕ → List ℕ → Numbers
numbers_at text p name least mosts = numbers_of name least mosts (get_or (lines_of (drop p text)) 0 [])
