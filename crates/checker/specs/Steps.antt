-- The tests that the checker's steps make on words, and what they ask for. Definitions only.
use Rattle.std.specs.Prelude.{◌≡◌, Bool, not, ◌&&◌, ◌||◌, List, [], ℕ, ◌+◌, ◌-◌, ◌*◌, ◌/◌, ◌≤◌, ◌<◌, eqb, leb, ltb, length, get_or}
use Rattle.mem.specs.Slice.{view}
use Rattle.rules.specs.Links.{none}
use Rattle.rules.specs.Checks.{vertex_stride, is_high}
use Rattle.rules.specs.Exits.{up_to_none}
use Rattle.rules.specs.declared.Vertex.{Vertex}
use Rattle.rules.specs.Handed.{Handed, polygon_count, mesh_in, corners_at, all_of}
use Rattle.rules.specs.Checker.{open_link}
use Rattle.stored.specs.Stored.{stored_vertices, vertex_in}

-- 40: x and z of n vertices are within the limits
unfoldable pub grid_holds : List ℕ → ℕ → Bool
grid_holds vs n = all_of (λ k. not (is_high (vertex_in vs k))) 0 n

-- the words of polygon i, of nvp words a polygon
abbrev pub row_at : ℕ → List ℕ → ℕ → List ℕ
row_at nvp ps i = view ps (i * nvp) nvp

-- 41 and 42: the words from a on are all 65,535
unfoldable pub unused_from : List ℕ → ℕ → Bool
unused_from row a = all_of (λ k. eqb (get_or row k 0) none) a (length row)

-- 41: the words of a polygon, over nv vertices
unfoldable pub row_holds : ℕ → List ℕ → Bool
row_holds nv row =
    let n = length (up_to_none row) in
    leb 3 n && (all_of (λ k. ltb (get_or row k 0) nv) 0 n && unused_from row n)

-- 42 and 43: the corners of polygon i begin at i·nvp and end at t
pub record RowEnds (nvp : ℕ) (ps : List ℕ) (i t : ℕ) : Type 0 where
  pub count : t ≡ i * nvp + length (up_to_none (row_at nvp ps i))
  pub corners : view ps (i * nvp) (t - i * nvp) ≡ up_to_none (row_at nvp ps i)
  pub within : t ≤ i * nvp + nvp

-- .. each polygon has its nvp words of corners and of links
pub record RowsReady (m : Handed) : Type 0 where
  pub few : polygon_count m ≤ 65535
  pub corners : polygon_count m * m.nvp ≤ length m.polygons
  pub links : polygon_count m * m.nvp ≤ length m.links

-- .. of np polygons, `own` are the corners of polygon i, and `mine` its links
pub record PolygonAt (m : Handed) (np i : ℕ) (own mine : List ℕ) : Type 0 where
  pub ready : RowsReady m
  pub count : np ≡ polygon_count m
  pub there : i < np
  pub corners : own ≡ corners_at (mesh_in m) i
  pub links : mine ≡ get_or (mesh_in m).links i []
  pub alike : length mine ≡ length own

-- 43: the vertices that the numbers vs are
abbrev pub vertices_in : List ℕ → List Vertex
vertices_in vs = stored_vertices vs (length vs / vertex_stride)

-- side j of a polygon with corners cs and links ls is not open, or bears what R7 gives
unfoldable pub side_bears : List ℕ → ℕ → ℕ → ℕ → List ℕ → List ℕ → ℕ → Bool
side_bears vs w h border cs ls j = ltb (get_or ls j none) none || eqb (get_or ls j none) (open_link (vertices_in vs) w h border cs j)

-- .. where each corner is a vertex, and each side has its link
pub record SidesReady (vs cs ls : List ℕ) : Type 0 where
  pub alike : length ls ≡ length cs
  pub inside : (k : ℕ) → k < length cs → get_or cs k 0 < length vs / vertex_stride
