-- How far a printed mesh has been read, and what the rest of it comes to. Definitions only.
use Rattle.std.specs.Prelude.{◌≡◌, List, [], ◌++◌, ℕ, suc, ◌+◌, ◌*◌, ◌≤◌, ◌<◌, ℤ, length, take, drop, get_or, Option, Some, None, Result, Ok, Err, ⊤}
use Rattle.mem.specs.Slice.{splice}
use Rattle.rules.specs.Lines.{Line, lines_of, numbers, malformed}
use Rattle.rules.specs.Exits.{padded}
use Rattle.rules.specs.Checks.{vertex_stride}
use Rattle.rules.specs.Sheet.{bytes_most, number_most, Read, taken, bad, line_at, need}
use Rattle.rules.specs.CheckSheet.{count_most, row_words, need_mesh, corner_numbers, link_numbers, read_polygons, read_places}
use Rattle.rules.specs.Checker.{Claim}
use Rattle.checksheet.specs.declared.counts.MeshLine.{MeshLine}
use Rattle.checksheet.specs.declared.progress.Progress.{Progress}
use Rattle.sheet.specs.declared.refusal.SheetRefusal.{SheetRefusal}
use Rattle.sheet.specs.Refusals.{refused_as}

-- ---- the mesh line

-- the line l says these counts and this total, and with them it goes on
pub record CountedAs (l : Line) (k n : ℕ) (z : ℤ) : Type 0 where
  pub places : k ≤ count_most
  pub polygons : n ≤ count_most
  pub says : (line : ℕ) (f : ℕ → ℕ → ℤ → Read Claim) → need_mesh line l f ≡ f k n z

unfoldable pub MeshIs : Line → Option MeshLine → Type 0
MeshIs l (Some m) = CountedAs l m.places m.polygons m.total
MeshIs l None = (line : ℕ) (f : ℕ → ℕ → ℤ → Read Claim) → need_mesh line l f ≡ bad 22 line

-- ---- the claim, and how far it has been read

-- the claim with these lists in its mesh
unfoldable pub with_mesh : Claim → List ℕ → List ℕ → List ℕ → Claim
with_mesh c vs ps ls = record {
  mesh = record { nvp = c.mesh.nvp; vertices = vs; polygons = ps; links = ls };
  w = c.w;
  h = c.h;
  border = c.border;
  total = c.total;
}

-- what the lines that are left come to, by f, which is told the number of the first of them; or the refusal
unfoldable pub rest_by : List ℕ → Result Progress SheetRefusal → (ℕ → List Line → Read Claim) → Read Claim
rest_by text (Ok p) f = f p.line (lines_of (drop p.at text))
rest_by text (Err e) f = refused_as e

-- what all lines came to
unfoldable pub end_of : Result ⊤ SheetRefusal → Claim → Read Claim
end_of (Ok u) c = taken c
end_of (Err e) c = refused_as e

-- the place is within the text, and its line's number is small
pub record Within (text : List ℕ) (p : Progress) : Type 0 where
  pub inside : p.at ≤ length text
  pub short : length text ≤ bytes_most
  pub small : p.line ≤ 6 + p.at

-- the place that comes next is, if there is one
unfoldable pub WithinAs : List ℕ → Result Progress SheetRefusal → Type 0
WithinAs text (Ok p) = Within text p
WithinAs text (Err e) = ⊤

-- ---- the vertices

-- the line of vertex i can be read
pub record PlaceReady (text : List ℕ) (p : Progress) (i : ℕ) (vs : List ℕ) : Type 0 where
  pub within : Within text p
  pub room : i * vertex_stride + vertex_stride ≤ length vs

-- it was read, and the rest comes to the same
pub record PlaceRead (text : List ℕ) (p : Progress) (r : Result Progress SheetRefusal) (i : ℕ) (vs vs' : List ℕ) : Type 0 where
  pub within : WithinAs text r
  pub long : length vs' ≡ length vs
  pub same : (due n : ℕ) (c : Claim)
      → read_places p.line (suc due) n (lines_of (drop p.at text)) (with_mesh c (take (i * vertex_stride) vs) [] [])
      ≡ rest_by text r (λ k ls. read_places k due n ls (with_mesh c (take ((i + 1) * vertex_stride) vs') [] []))

-- the lines of k vertices can be read
pub record PlacesReady (text : List ℕ) (from k : ℕ) (vs : List ℕ) : Type 0 where
  pub inside : from ≤ length text
  pub short : length text ≤ bytes_most
  pub room : k * vertex_stride ≤ length vs

-- what stands in the list at the end is what was read: for any claim without a mesh
pub record PlacesRead (text : List ℕ) (from k : ℕ) (r : Result Progress SheetRefusal) (vs : List ℕ) : Type 0 where
  pub within : WithinAs text r
  pub same : (n : ℕ) (c : Claim) → read_places 6 k n (lines_of (drop from text)) (with_mesh c [] [] [])
      ≡ rest_by text r (λ line ls. read_polygons line n ls (with_mesh c (take (k * vertex_stride) vs) [] []))

-- ---- a polygon

-- at most n numbers, each up to `most`, can be stored at `at`
pub record RowReady {A : Type 0} (most : ℕ) (row : List A) (at n : ℕ) (values : List ℕ) : Type 0 where
  pub room : at + n ≤ length row
  pub few : length values ≤ n
  pub small : (i : ℕ) → i < length values → get_or values i 0 ≤ most

-- a `p` line can be read: there is room for region, area code and 12 corners
pub record CornersReady (most : ℕ) (v : List ℕ) : Type 0 where
  pub few : most ≤ 12
  pub room : length v ≡ 14

-- the cells l are those of a `p` line with so many corners, whose numbers stand at the beginning of the words v, which became w
pub record CornersAre (most : ℕ) (l : Line) (count : ℕ) (v w : List ℕ) : Type 0 where
  pub ns : List ℕ
  pub says : corner_numbers most l ≡ numbers ns
  pub long : length ns ≡ count + 2
  pub few : count ≤ most
  pub small : (i : ℕ) → i < count → get_or ns (i + 2) 0 ≤ number_most
  pub put : w ≡ splice v 0 ns

unfoldable pub CornersRead : ℕ → Line → Option ℕ → List ℕ → List ℕ → Type 0
CornersRead most l (Some count) v w = CornersAre most l count v w
CornersRead most l None v w = corner_numbers most l ≡ malformed

-- the `n` line of polygon i, which has n corners, can be read
pub record RowAtReady (text : List ℕ) (p : Progress) (words i n : ℕ) (ls : List ℕ) : Type 0 where
  pub within : Within text p
  pub few : words ≤ 12
  pub corners : n ≤ words
  pub room : i * words + words ≤ length ls

-- it was read: with its links `ms` the rest comes to the same
pub record LinksRead (text : List ℕ) (p : Progress) (r : Result Progress SheetRefusal) (words i n : ℕ) (ls ls' : List ℕ) : Type 0 where
  pub within : WithinAs text r
  pub long : length ls' ≡ length ls
  pub ms : List ℕ
  pub more : (q : Progress) → r ≡ Ok q → take ((i + 1) * words) ls' ≡ take (i * words) ls ++ padded words ms
  pub same : (f : ℕ → List Line → List ℕ → Read Claim)
      → need p.line (link_numbers n (line_at (lines_of (drop p.at text)) 0)) (f (p.line + 1) (drop 1 (lines_of (drop p.at text))))
      ≡ rest_by text r (λ k lines. f k lines ms)

-- the lines of polygon i can be read
pub record PolygonReady (text : List ℕ) (p : Progress) (words i : ℕ) (ps ls : List ℕ) : Type 0 where
  pub within : Within text p
  pub few : words ≤ 12
  pub room : i * words + words ≤ length ps
  pub links : i * words + words ≤ length ls

-- they were read, and the rest comes to the same
pub record PolygonRead (text : List ℕ) (p : Progress) (r : Result Progress SheetRefusal) (words i : ℕ) (ps ls ps' ls' : List ℕ) : Type 0 where
  pub within : WithinAs text r
  pub polygons : length ps' ≡ length ps
  pub links : length ls' ≡ length ls
  pub same : (due : ℕ) (c : Claim) (vs : List ℕ) → row_words c.mesh.nvp ≡ words
      → read_polygons p.line (suc due) (lines_of (drop p.at text)) (with_mesh c vs (take (i * words) ps) (take (i * words) ls))
      ≡ rest_by text r (λ k lines. read_polygons k due lines (with_mesh c vs (take ((i + 1) * words) ps') (take ((i + 1) * words) ls')))

-- the lines of n polygons can be read
pub record PolygonsReady (text : List ℕ) (p : Progress) (words n : ℕ) (ps ls : List ℕ) : Type 0 where
  pub within : Within text p
  pub few : words ≤ 12
  pub room : n * words ≤ length ps
  pub links : n * words ≤ length ls

pub record PolygonsRead (text : List ℕ) (p : Progress) (r : Result Progress SheetRefusal) (words n : ℕ) (ps ls : List ℕ) : Type 0 where
  pub within : WithinAs text r
  pub same : (c : Claim) (vs : List ℕ) → row_words c.mesh.nvp ≡ words
      → read_polygons p.line n (lines_of (drop p.at text)) (with_mesh c vs [] [])
      ≡ rest_by text r (λ k lines. read_polygons k 0 lines (with_mesh c vs (take (n * words) ps) (take (n * words) ls)))

-- ---- all that is behind the mesh line

pub record ListsReady (text : List ℕ) (from words k n : ℕ) (vs ps ls : List ℕ) : Type 0 where
  pub inside : from ≤ length text
  pub short : length text ≤ bytes_most
  pub few : words ≤ 12
  pub places : k * vertex_stride ≤ length vs
  pub room : n * words ≤ length ps
  pub links : n * words ≤ length ls

pub record ListsRead (text : List ℕ) (from words k n : ℕ) (r : Result ⊤ SheetRefusal) (vs ps ls : List ℕ) : Type 0 where
  pub same : (c : Claim) → row_words c.mesh.nvp ≡ words → read_places 6 k n (lines_of (drop from text)) (with_mesh c [] [] [])
      ≡ end_of r (with_mesh c (take (k * vertex_stride) vs) (take (n * words) ps) (take (n * words) ls))
