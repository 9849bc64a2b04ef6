-- What is printed for a mesh, as far as it has been read. Definitions only.
use Rattle.std.specs.Prelude.{true, false, List, [], ◌∷◌, ◌++◌, ℕ, ◌≤◌, eqb, ℤ, length, drop}
use Rattle.rules.specs.Lines.{lf, lines_of}
use Rattle.rules.specs.Sheet.{bytes_most, refused_text, read_text}
use Rattle.rules.specs.CheckSheet.{accepted_name, no_mesh_yet, verdict_text, read_mesh}
use Rattle.rules.specs.Checker.{Claim, verdict}
use Rattle.sheet.specs.declared.heading.Heading.{Heading}
use Rattle.sheet.specs.Reading.{sheet_of}
use Rattle.checksheet.specs.Reading.{with_mesh}

-- a verdict's text, by its two numbers
unfoldable pub numbers_text : ℕ → ℕ → List ℕ
numbers_text number second = elim (eqb number 0) [
  | true ↦ accepted_name ++ (lf ∷ [])
  | false ↦ refused_text number second
]

-- the text of a claim
unfoldable pub claim_text : Claim → List ℕ
claim_text c = verdict_text (verdict c)

-- what is printed for these lists and this total, behind the heading x
unfoldable pub answer_text : Heading → ℤ → List ℕ → List ℕ → List ℕ → List ℕ
answer_text x z vs ps ls = claim_text (with_mesh (no_mesh_yet (sheet_of x) z) vs ps ls)

-- there is room for it
pub record AnswerReady (out : List ℕ) : Type 0 where
  pub room : 50 ≤ length out

-- what is printed for the lines behind the heading x, which can be read
unfoldable pub lines_text : List ℕ → Heading → List ℕ
lines_text text x = read_text claim_text (read_mesh (lines_of (drop x.at text)) (sheet_of x))

pub record LinesReady (text : List ℕ) (x : Heading) (out : List ℕ) : Type 0 where
  pub inside : x.at ≤ length text
  pub short : length text ≤ bytes_most
  pub room : 50 ≤ length out
