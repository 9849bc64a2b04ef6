-- The kept rows of the merge in the buffer: their words, what the functions ask for, and what they leave. What a row is, and which ones a join makes stale, is
-- in `laws` (`Rows`, `Stamps`). Definitions only.
use Rattle.std.specs.Prelude.{◌≡◌, Bool, true, false, List, [], ◌∷◌, ℕ, ◌+◌, ◌*◌, ◌^◌, ◌≤◌, ◌<◌, length, get_or, replicate}
use Rattle.mem.specs.Slice.{view, splice}
use Rattle.rules.specs.Mesh.{Polygon, polygon_at}
use Rattle.rules.specs.declared.Vertex.{Vertex}
use Rattle.rules.specs.declared.Pair.{Pair}
use Rattle.laws.specs.Rows.{row_of, After}
use Rattle.laws.specs.Stamps.{stamp_of}
use Rattle.records.specs.Layout.{polygon_size, Tidy}
use Rattle.polys.specs.declared.field.Field.{Field}
use Rattle.polys.specs.Ready.{Ready, MergedTo}
use Rattle.polys.specs.Fields.{vertices_in, polygons_in}

-- ---- a row's words

abbrev pub row_size : ℕ
row_size = 5

-- a pair but for its first polygon, which has the row's number, and the stamp of that polygon
unfoldable pub row_words : Pair → ℕ → List ℕ
row_words m s = m.length ∷ m.b ∷ m.ea ∷ m.eb ∷ s ∷ []

-- the words of row r of the polygons ps
unfoldable pub row_record : List Vertex → ℕ → List Polygon → ℕ → List ℕ
row_record vs nvp ps r = row_words (row_of vs nvp ps r) (stamp_of (polygon_at ps r).corners)

-- of the rows at ro: the words of row r, its pair, and its stamp
abbrev pub row_at : List ℕ → ℕ → ℕ → List ℕ
row_at w ro r = view w (ro + r * row_size) row_size

unfoldable pub row_in : List ℕ → ℕ → ℕ → Pair
row_in w ro r = record {
  length = get_or w (ro + r * row_size) 0;
  a = r;
  b = get_or w (ro + r * row_size + 1) 0;
  ea = get_or w (ro + r * row_size + 2) 0;
  eb = get_or w (ro + r * row_size + 3) 0;
}

abbrev pub stamp_in : List ℕ → ℕ → ℕ → ℕ
stamp_in w ro r = get_or w (ro + r * row_size + 4) 0

-- row r is that of the polygons ps
pub record RowIs (w : List ℕ) (ro r : ℕ) (vs : List Vertex) (nvp : ℕ) (ps : List Polygon) : Type 0 where
  pub is : row_at w ro r ≡ row_record vs nvp ps r

-- ---- what the functions ask for, and what they leave

-- np polygons, and behind them, at ro, room for their rows
pub record RowsReady (w : List ℕ) (vo nv o np nvp ro : ℕ) : Type 0 where
  pub ready : Ready w vo nv o np nvp
  pub behind : o + np * polygon_size ≤ ro
  pub room : ro + np * row_size ≤ length w
  pub few : np < 2 ^ 28

-- there is room at `at` for a row's words, and the pair's numbers are words
pub record RowFits (w : List ℕ) (at : ℕ) (m : Pair) : Type 0 where
  pub room : at + row_size ≤ length w
  pub second : m.b < 2 ^ 32
  pub side_a : m.ea < 2 ^ 32
  pub side_b : m.eb < 2 ^ 32

abbrev pub RowsReadyIn : List ℕ → Field → Type 0
RowsReadyIn w f = RowsReady w f.vertices.at f.vertices.n f.polygons.at f.polygons.n f.nvp f.rows

-- of the rows those from q on are kept
pub record KeptFrom (w : List ℕ) (f : Field) (q : ℕ) : Type 0 where
  pub rows : RowsReadyIn w f
  pub at : (r : ℕ) → q ≤ r → r < f.polygons.n → RowIs w f.rows r (vertices_in w f) f.nvp (polygons_in w f)

-- the same, and s is the stamp of polygon r, which is the one before them
pub record Stamped (w : List ℕ) (f : Field) (r s : ℕ) : Type 0 where
  pub kept : KeptFrom w f (r + 1)
  pub below : r < f.polygons.n
  pub is : s ≡ stamp_of (polygon_at (polygons_in w f) r).corners

-- row r is that of ps, of which a join of a and b left the polygons at o; the rows behind it are kept
pub record Renewable (w : List ℕ) (f : Field) (a b r : ℕ) : Type 0 where
  pub kept : KeptFrom w f (r + 1)
  pub below : r < f.polygons.n
  pub ps : List Polygon
  pub after : After ps (polygons_in w f) a b
  pub at : RowIs w f.rows r (vertices_in w f) f.nvp ps

-- all rows are those of ps
pub record AllRenewable (w : List ℕ) (f : Field) (a b : ℕ) : Type 0 where
  pub rows : RowsReadyIn w f
  pub ps : List Polygon
  pub after : After ps (polygons_in w f) a b
  pub at : (r : ℕ) → r < f.polygons.n → RowIs w f.rows r (vertices_in w f) f.nvp ps

-- w, with zeros in the place of np rows at ro
unfoldable pub wiped : List ℕ → ℕ → ℕ → List ℕ
wiped w ro np = splice w ro (replicate (np * row_size) 0)

-- all rows are kept, and every other word is as it was
pub record RowsKept (w v : List ℕ) (f : Field) : Type 0 where
  pub kept : KeptFrom v f 0
  pub same : wiped v f.rows f.polygons.n ≡ wiped w f.rows f.polygons.n

-- where so many polygons are merged that rows are kept (t), all rows are
pub record RowsIf (w : List ℕ) (f : Field) (t : Bool) : Type 0 where
  pub rows : RowsReadyIn w f
  pub kept : t ≡ true → KeptFrom w f 0

-- the same, where a join of a and b is to be told to the rows
pub record RenewIf (w : List ℕ) (f : Field) (a b : ℕ) (t : Bool) : Type 0 where
  pub rows : RowsReadyIn w f
  pub kept : t ≡ true → AllRenewable w f a b

-- and every word but those of the rows is as it was; where none are kept, every word
pub record KeptIf (w v : List ℕ) (f : Field) (t : Bool) : Type 0 where
  pub rows : RowsIf v f t
  pub same : wiped v f.rows f.polygons.n ≡ wiped w f.rows f.polygons.n
  pub still : t ≡ false → v ≡ w

-- the polygons are to be merged, and behind them there is room for their rows
pub record MergeRoom (w : List ℕ) (vo nv o np nvp ro : ℕ) : Type 0 where
  pub rows : RowsReady w vo nv o np nvp ro
  pub tidy : Tidy w o np

-- R4 was done, as `MergedTo` says, and there are zeros where the rows were
pub record MergedOver (w v : List ℕ) (vo nv o np nvp ro r : ℕ) : Type 0 where
  pub mid : List ℕ
  pub merged : MergedTo w mid vo nv o np nvp r
  pub is : v ≡ wiped mid ro np
