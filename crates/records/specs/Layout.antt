-- The layouts of the records in the work buffer: how many words each has, what they say, and lists of them. Definitions only.
use Rattle.std.specs.Prelude.{◌≡◌, List, [], ◌∷◌, ◌++◌, ℕ, ◌+◌, ◌*◌, ◌≤◌, length, take, drop, get_or, replicate}
use Rattle.mem.specs.Slice.{splice}
use Rattle.mem.specs.Tab.{tab, blocks}
use Rattle.mem.specs.Packed.{packed}
use Rattle.rules.specs.Plane.{InGrid}
use Rattle.rules.specs.Weld.{no_vertex}
use Rattle.rules.specs.Mesh.{Polygon, place_of}
use Rattle.rules.specs.Exits.{padded}
use Rattle.rules.specs.declared.Vertex.{Vertex}
use Rattle.rules.specs.declared.Side.{Side}
use Rattle.rules.specs.declared.ChainPoint.{ChainPoint}
use Rattle.rules.specs.declared.Edge.{Edge}

-- ---- a vertex: x, y, z, its mark, and a word that is kept for where it came from
abbrev pub vertex_size : ℕ
vertex_size = 5

abbrev pub mark_place : ℕ
mark_place = 3

unfoldable pub vertex_in : List ℕ → Vertex
vertex_in ws = record { x = get_or ws 0 0; y = get_or ws 1 0; z = get_or ws 2 0 }

unfoldable pub mark_in : List ℕ → ℕ
mark_in ws = get_or ws mark_place 0

unfoldable pub vertex_words : Vertex → ℕ → List ℕ
vertex_words v mark = v.x ∷ v.y ∷ v.z ∷ mark ∷ 0 ∷ []

-- the n vertices from o on, and their marks
unfoldable pub vertices_at : List ℕ → ℕ → ℕ → List Vertex
vertices_at w o n = blocks vertex_in w o vertex_size n

unfoldable pub marks_at : List ℕ → ℕ → ℕ → List ℕ
marks_at w o n = blocks mark_in w o vertex_size n

-- a vertex with its mark; those of two lists; and the words of all of them
pub record Marked : Type 0 where
  pub vertex : Vertex
  pub mark : ℕ

abbrev pub marked_words : Marked → List ℕ
marked_words m = vertex_words m.vertex m.mark

unfoldable pub with_marks : List Vertex → List ℕ → List Marked
with_marks vs ms = tab (λ k. record { vertex = get_or vs k no_vertex; mark = get_or ms k 0 }) (length vs)

unfoldable pub vertex_records : List Vertex → List ℕ → List ℕ
vertex_records vs ms = packed marked_words (with_marks vs ms)

-- nv vertices stand at vo, each of them on the grid
pub record Placed (w : List ℕ) (vo nv : ℕ) : Type 0 where
  pub fits : vo + nv * vertex_size ≤ length w
  pub grid : (k : ℕ) → InGrid (place_of (vertices_at w vo nv) k)

-- ---- a polygon: the count of its corners, its region, its area code, room for the corners, and words that are kept for its area
abbrev pub polygon_size : ℕ
polygon_size = 18

abbrev pub most_corners : ℕ
most_corners = 12

abbrev pub spare_words : ℕ
spare_words = 3

unfoldable pub polygon_in : List ℕ → Polygon
polygon_in ws = record { corners = take (get_or ws 0 0) (drop 3 ws); region = get_or ws 1 0; code = get_or ws 2 0 }

unfoldable pub polygon_words : Polygon → List ℕ
polygon_words p = length p.corners ∷ p.region ∷ p.code ∷ (padded most_corners p.corners ++ replicate spare_words 0)

-- the n polygons from o on, and the words of a list of them
unfoldable pub polygons_at : List ℕ → ℕ → ℕ → List Polygon
polygons_at w o n = blocks polygon_in w o polygon_size n

unfoldable pub polygon_records : List Polygon → List ℕ
polygon_records ps = packed polygon_words ps

-- a polygon that a record can hold
abbrev pub Small : Polygon → Type 0
Small p = length p.corners ≤ most_corners

-- the np records at o are just those of the polygons that they hold: 65,535 behind the last corner, and zeros in the words that are kept
pub record Tidy (w : List ℕ) (o np : ℕ) : Type 0 where
  pub is : w ≡ splice w o (polygon_records (polygons_at w o np))

-- ---- a side of a removal: where it starts, where it ends, its polygon's region and area code
abbrev pub side_size : ℕ
side_size = 4

unfoldable pub side_in : List ℕ → Side
side_in ws = record { start = get_or ws 0 0; end = get_or ws 1 0; region = get_or ws 2 0; code = get_or ws 3 0 }

unfoldable pub side_words : Side → List ℕ
side_words s = s.start ∷ s.end ∷ s.region ∷ s.code ∷ []

-- the n sides from o on, and the words of a list of them
unfoldable pub sides_at : List ℕ → ℕ → ℕ → List Side
sides_at w o n = blocks side_in w o side_size n

unfoldable pub side_records : List Side → List ℕ
side_records ss = packed side_words ss

-- ---- a point of the chain: its vertex, and the region and area code of the side that brought it
abbrev pub point_size : ℕ
point_size = 3

unfoldable pub point_in : List ℕ → ChainPoint
point_in ws = record { vertex = get_or ws 0 0; region = get_or ws 1 0; code = get_or ws 2 0 }

unfoldable pub point_words : ChainPoint → List ℕ
point_words c = c.vertex ∷ c.region ∷ c.code ∷ []

-- the n points from o on, and the words of a list of them
unfoldable pub points_at : List ℕ → ℕ → ℕ → List ChainPoint
points_at w o n = blocks point_in w o point_size n

unfoldable pub point_records : List ChainPoint → List ℕ
point_records cs = packed point_words cs

-- ---- an edge: its lower and its higher vertex, its polygon and which side of it, the other polygon and which side of that
abbrev pub edge_size : ℕ
edge_size = 6

unfoldable pub edge_in : List ℕ → Edge
edge_in ws = record { low = get_or ws 0 0; high = get_or ws 1 0; poly = get_or ws 2 0; side = get_or ws 3 0; other = get_or ws 4 0; at = get_or ws 5 0 }

unfoldable pub edge_words : Edge → List ℕ
edge_words e = e.low ∷ e.high ∷ e.poly ∷ e.side ∷ e.other ∷ e.at ∷ []

-- the n edges from o on, and the words of a list of them
unfoldable pub edges_at : List ℕ → ℕ → ℕ → List Edge
edges_at w o n = blocks edge_in w o edge_size n

unfoldable pub edge_records : List Edge → List ℕ
edge_records es = packed edge_words es

-- ---- a polygon's links: one word a corner
abbrev pub link_size : ℕ
link_size = most_corners
