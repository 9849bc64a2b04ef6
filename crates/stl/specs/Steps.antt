-- What the steps of writing an STL ask for and answer. What writing and reading answer is said in the rules' `StlCall`. Definitions only.
use Rattle.std.specs.Prelude.{Bool, List, [], ℕ, ◌*◌, ◌/◌, ◌≤◌, ◌<◌, T, Float, length, get_or}
use Rattle.mem.specs.Slice.{view}
use Rattle.mem.specs.Tab.{tab}
use Rattle.mem.specs.Packed.{packed}
use Rattle.rules.specs.Mesh.{Polygon}
use Rattle.rules.specs.Checks.{vertex_stride}
use Rattle.rules.specs.Exits.{up_to_none, stored_polygon}
use Rattle.rules.specs.Stl.{Scale, is_length, fan_of, facets_of, facet_count, facet_bytes, file_of}
use Rattle.rules.specs.declared.Vertex.{Vertex}
use Rattle.lines.specs.Print.{Room}
use Rattle.stored.specs.Stored.{lent_of, stored_vertices}

-- a cell's size and height with their unit, as they are handed in
abbrev pub scale_in : Bool → Float → Float → Scale
scale_in inches size height = record { inches = inches; size = size; height = height }

-- the vertices of a buffer, and the np polygons of one
abbrev pub vertices_in : List ℕ → List Vertex
vertices_in vs = stored_vertices vs (length vs / vertex_stride)

unfoldable pub polygons_in : ℕ → ℕ → List ℕ → List Polygon
polygons_in nvp np ps = tab (stored_polygon nvp (lent_of [] ps [] [] [])) np

-- the bytes of the facets of a polygon with these corners, and of np polygons
unfoldable pub fan_bytes : Float → Float → List ℕ → List ℕ → List ℕ
fan_bytes size height vs cs = packed facet_bytes (fan_of size height (vertices_in vs) cs)

unfoldable pub facets_bytes : Float → Float → ℕ → ℕ → List ℕ → List ℕ → List ℕ
facets_bytes size height nvp np vs ps = packed facet_bytes (facets_of size height (vertices_in vs) (polygons_in nvp np ps))

-- size and height are lengths; three corners and more, each a vertex; and there is room
pub record FanReady (size height : Float) (vs cs out : List ℕ) (at : ℕ) : Type 0 where
  pub size_length : T (is_length size)
  pub height_length : T (is_length height)
  pub long : 3 ≤ length cs
  pub inside : (k : ℕ) → k < length cs → get_or cs k 0 < length vs / vertex_stride
  pub room : Room out (fan_bytes size height vs cs) at

-- each of np polygons has its nvp words, and three corners and more
pub record CountReady (nvp np : ℕ) (ps : List ℕ) : Type 0 where
  pub most : nvp ≤ 12
  pub few : np ≤ 65535
  pub words : np * nvp ≤ length ps
  pub long : (i : ℕ) → i < np → 3 ≤ length (up_to_none (view ps (i * nvp) nvp))

-- .. each corner is a vertex, and there is room
pub record FacetsReady (size height : Float) (nvp np : ℕ) (vs ps out : List ℕ) (at : ℕ) : Type 0 where
  pub size_length : T (is_length size)
  pub height_length : T (is_length height)
  pub count : CountReady nvp np ps
  pub inside : (i k : ℕ) → i < np → k < length (up_to_none (view ps (i * nvp) nvp)) → get_or (up_to_none (view ps (i * nvp) nvp)) k 0 < length vs / vertex_stride
  pub room : Room out (facets_bytes size height nvp np vs ps) at

-- ---- the whole file, of all the polygons of a buffer

unfoldable pub count_of : ℕ → List ℕ → ℕ
count_of nvp ps = facet_count (polygons_in nvp (length ps / nvp) ps)

unfoldable pub file_in : Float → Float → ℕ → List ℕ → List ℕ → List ℕ
file_in size height nvp vs ps = file_of (facets_of size height (vertices_in vs) (polygons_in nvp (length ps / nvp) ps))

-- a sound mesh, as far as writing needs it
pub record MeshSound (nvp : ℕ) (vs ps : List ℕ) : Type 0 where
  pub count : CountReady nvp (length ps / nvp) ps
  pub low : 3 ≤ nvp
  pub inside : (i k : ℕ) → i < length ps / nvp → k < length (up_to_none (view ps (i * nvp) nvp))
      → get_or (up_to_none (view ps (i * nvp) nvp)) k 0 < length vs / vertex_stride

-- .. whose size and height are lengths
pub record FileReady (size height : Float) (nvp : ℕ) (vs ps : List ℕ) : Type 0 where
  pub size_length : T (is_length size)
  pub height_length : T (is_length height)
  pub sound : MeshSound nvp vs ps
