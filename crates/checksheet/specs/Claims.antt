-- What a printed mesh is found to claim. Definitions only.
use Rattle.std.specs.Prelude.{◌≡◌, List, ℕ, ◌*◌, ◌≤◌, ℤ, length, take, drop, Result, Ok, Err}
use Rattle.rules.specs.Lines.{lines_of}
use Rattle.rules.specs.Checks.{vertex_stride}
use Rattle.rules.specs.Sheet.{bytes_most, taken}
use Rattle.rules.specs.CheckSheet.{count_most, row_words, no_mesh_yet, read_mesh}
use Rattle.rules.specs.Checker.{Claim}
use Rattle.sheet.specs.declared.heading.Heading.{Heading}
use Rattle.sheet.specs.Reading.{sheet_of}
use Rattle.sheet.specs.declared.refusal.SheetRefusal.{SheetRefusal}
use Rattle.sheet.specs.Refusals.{refused_as}
use Rattle.checksheet.specs.declared.counts.MeshLine.{MeshLine}
use Rattle.checksheet.specs.Reading.{with_mesh}

-- the lines behind the heading can be read: there is room for all that a mesh line may speak of
pub record MeshReady (text : List ℕ) (x : Heading) (vs ps ls : List ℕ) : Type 0 where
  pub inside : x.at ≤ length text
  pub short : length text ≤ bytes_most
  pub places : length vs ≡ 24576
  pub polygons : length ps ≡ 98304
  pub links : length ls ≡ 98304

-- the claim behind the heading x: k vertices and n polygons, which stand in the lists, and this total
unfoldable pub claim_of : Heading → ℕ → ℕ → ℤ → List ℕ → List ℕ → List ℕ → Claim
claim_of x k n z vs ps ls =
    with_mesh (no_mesh_yet (sheet_of x) z) (take (k * vertex_stride) vs) (take (n * row_words x.nvp) ps) (take (n * row_words x.nvp) ls)

-- the lines behind the heading were read as far as their end
pub record ClaimedAs (text : List ℕ) (x : Heading) (k n : ℕ) (z : ℤ) (vs ps ls : List ℕ) : Type 0 where
  pub places : k ≤ count_most
  pub polygons : n ≤ count_most
  pub same : read_mesh (lines_of (drop x.at text)) (sheet_of x) ≡ taken (claim_of x k n z vs ps ls)

-- what they are found to be, and that in a record, which tells what it is of
unfoldable pub FoundAs : List ℕ → Heading → Result MeshLine SheetRefusal → List ℕ → List ℕ → List ℕ → Type 0
FoundAs text x (Ok m) vs ps ls = ClaimedAs text x m.places m.polygons m.total vs ps ls
FoundAs text x (Err e) vs ps ls = read_mesh (lines_of (drop x.at text)) (sheet_of x) ≡ refused_as e

pub record MeshRead (text : List ℕ) (x : Heading) (r : Result MeshLine SheetRefusal) (vs ps ls : List ℕ) : Type 0 where
  pub found : FoundAs text x r vs ps ls
