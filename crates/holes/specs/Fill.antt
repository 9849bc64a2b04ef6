-- What the functions that fill a hole ask for. Definitions only.
use Rattle.std.specs.Prelude.{◌≡◌, List, [], ◌∷◌, ◌++◌, map, ℕ, ◌+◌, ◌-◌, ◌*◌, ◌^◌, ◌≤◌, ◌<◌, length, replicate, Option, Some, None}
use Rattle.mem.specs.Slice.{splice}
use Rattle.mem.specs.Tab.{blocks}
use Rattle.mem.specs.Packed.{packed, Every}
use Rattle.rules.specs.Ears.{Ears, done, stuck}
use Rattle.rules.specs.Mesh.{Polygon, no_polygon}
use Rattle.rules.specs.Merge.{merge_all}
use Rattle.rules.specs.Removal.{hole_triangle}
use Rattle.rules.specs.declared.Vertex.{Vertex}
use Rattle.rules.specs.declared.Point.{Point}
use Rattle.rules.specs.declared.ChainPoint.{ChainPoint}
use Rattle.laws.specs.Lists.{All}
use Rattle.laws.specs.Ears.{Triangle}
use Rattle.polys.specs.Rows.{row_size, wiped}
use Rattle.records.specs.Layout.{vertex_size, point_size, polygon_size, most_corners, vertices_at, points_at, polygon_records, Small, Placed}

-- a place as two words, and those of a list
unfoldable pub place_words : Point → List ℕ
place_words p = p.x ∷ p.z ∷ []

-- each point's vertex is one of nv
abbrev pub Named : ℕ → ChainPoint → Type 0
Named nv c = c.vertex < nv

-- m points stand at q, each of one of the nv vertices at vo, and behind them there is room for their places at po
pub record LayReady (w : List ℕ) (vo nv q m po : ℕ) : Type 0 where
  pub placed : Placed w vo nv
  pub before : vo + nv * vertex_size ≤ q
  pub behind : q + m * point_size ≤ po
  pub fits : po + m * 2 ≤ length w
  pub named : All (Named nv) (points_at w q m)

-- the k triangles whose words stand at to
unfoldable pub triangles_at : List ℕ → ℕ → ℕ → List (List ℕ)
triangles_at w to k = blocks (λ t. t) w to 3 k

-- m points stand at q, and k triangles of their places at to, with room for as many polygons at `at`, in front of both
pub record ShapeReady (w : List ℕ) (at q m to k : ℕ) : Type 0 where
  pub front : at + k * polygon_size ≤ q
  pub behind : q + m * point_size ≤ to
  pub fits : to + k * 3 ≤ length w
  pub within : All (Triangle m) (triangles_at w to k)

-- m points of a hole stand at q, and behind them there is room to cut them at po
pub record CutReady (w : List ℕ) (vo nv q m po : ℕ) : Type 0 where
  pub lay : LayReady w vo nv q m po
  pub some : 3 ≤ m
  pub few : m < 2 ^ 28
  pub room : po + (m * 6 - 6) ≤ length w

-- the words in which m places are cut, once that is done: the places, index words that are wiped, and the triangles; or zeros behind the places
unfoldable pub cut_words : ℕ → List Point → Ears → List ℕ
cut_words m ps (done ts) = packed place_words ps ++ (replicate m 0 ++ packed (λ t. t) ts)
cut_words m ps (stuck k) = packed place_words ps ++ replicate (m + (m - 2) * 3) 0

-- the same, and the points are of the nv vertices at vo, which lie in front of the polygons; behind the points, at ro, there is room for the merge's rows
pub record MeshReady (w : List ℕ) (vo nv at q m to k nvp ro : ℕ) : Type 0 where
  pub shape : ShapeReady w at q m to k
  pub placed : Placed w vo nv
  pub before : vo + nv * vertex_size ≤ at
  pub named : All (Named nv) (points_at w q m)
  pub least : 3 ≤ nvp
  pub most : nvp ≤ most_corners
  pub few : k < 2 ^ 28
  pub clear : q + m * point_size ≤ ro
  pub room : ro + k * row_size ≤ length w

-- R4 on the triangles of the hole
unfoldable pub hole_polygons : List Vertex → ℕ → List ChainPoint → List (List ℕ) → List Polygon
hole_polygons vs nvp hole ts = merge_all vs nvp (map (hole_triangle hole) ts)

-- those polygons stand at `at`, r of them, with blank ones behind them up to k, and every other word is as it was. `count` and `is` fix all
pub record MeshedTo (w u : List ℕ) (vo nv at q m to k nvp r : ℕ) : Type 0 where
  pub count : r ≡ length (hole_polygons (vertices_at w vo nv) nvp (points_at w q m) (triangles_at w to k))
  pub is : u ≡ splice w at (polygon_records (hole_polygons (vertices_at w vo nv) nvp (points_at w q m) (triangles_at w to k) ++ replicate (k - r) no_polygon))
  pub fewer : r ≤ k
  pub small : Every Small no_polygon (hole_polygons (vertices_at w vo nv) nvp (points_at w q m) (triangles_at w to k) ++ replicate (k - r) no_polygon)

-- the same, with zeros where the merge had its rows
pub record MeshedOver (w u : List ℕ) (vo nv at q m to k nvp ro r : ℕ) : Type 0 where
  pub mid : List ℕ
  pub meshed : MeshedTo w mid vo nv at q m to k nvp r
  pub is : u ≡ wiped mid ro k

-- a hole of m points at q, with room for its polygons at `at`, in front of it, and for the cutting at po, behind it
pub record FillReady (w : List ℕ) (vo nv at q m po nvp : ℕ) : Type 0 where
  pub cut : CutReady w vo nv q m po
  pub before : vo + nv * vertex_size ≤ at
  pub front : at + (m - 2) * polygon_size ≤ q
  pub least : 3 ≤ nvp
  pub most : nvp ≤ most_corners

-- what filling a hole answers: how many polygons it has, or that there was no ear to cut
unfoldable pub filled_of : List Vertex → ℕ → List ChainPoint → Ears → Option ℕ
filled_of vs nvp hole (done ts) = Some (length (hole_polygons vs nvp hole ts))
filled_of vs nvp hole (stuck k) = None

-- and what it leaves: its polygons at `at`, with blank ones behind them, as many as triangles in all; and zeros where it was cut
unfoldable pub filled_in : List ℕ → List Vertex → ℕ → ℕ → ℕ → List ChainPoint → Ears → List ℕ
filled_in w vs nvp at po hole (done ts) =
    let ps = hole_polygons vs nvp hole ts in
    splice (splice w at (polygon_records (ps ++ replicate (length hole - 2 - length ps) no_polygon))) po (replicate (length hole * 6 - 6) 0)
filled_in w vs nvp at po hole (stuck k) = splice w po (replicate (length hole * 6 - 6) 0)
