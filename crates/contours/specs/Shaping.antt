-- What the functions that make polygons of a contour's triangles ask for, and what they leave. Definitions only.
use Rattle.std.specs.Prelude.{◌≡◌, List, ◌++◌, map, ℕ, ◌+◌, ◌-◌, ◌*◌, ◌^◌, ◌≤◌, ◌<◌, length, replicate}
use Rattle.mem.specs.Slice.{view, splice}
use Rattle.mem.specs.Packed.{Every}
use Rattle.rules.specs.Mesh.{Polygon, no_polygon}
use Rattle.rules.specs.Merge.{merge_all}
use Rattle.rules.specs.Build.{contour_triangle}
use Rattle.rules.specs.declared.Vertex.{Vertex}
use Rattle.laws.specs.Lists.{All}
use Rattle.laws.specs.Ears.{Triangle}
use Rattle.laws.specs.Merge.{Below}
use Rattle.records.specs.Layout.{vertex_size, polygon_size, most_corners, vertices_at, polygon_records, Small, Placed}
use Rattle.polys.specs.Rows.{row_size, wiped}
use Rattle.holes.specs.Fill.{triangles_at}

-- n numbers stand at ko, and k triangles of their places at `to`, behind them, with room for as many polygons at `at`, in front of both
pub record ShapeReady (w : List ℕ) (at ko n to k : ℕ) : Type 0 where
  pub front : at + k * polygon_size ≤ ko
  pub behind : ko + n ≤ to
  pub fits : to + k * 3 ≤ length w
  pub within : All (Triangle n) (triangles_at w to k)

-- the same, and the numbers are of the nv vertices at vo, which lie in front of the polygons; behind the numbers, at ro, there is room for the merge's rows
pub record MeshReady (w : List ℕ) (vo nv at ko n to k nvp ro : ℕ) : Type 0 where
  pub shape : ShapeReady w at ko n to k
  pub placed : Placed w vo nv
  pub before : vo + nv * vertex_size ≤ at
  pub named : All (Below nv) (view w ko n)
  pub least : 3 ≤ nvp
  pub most : nvp ≤ most_corners
  pub few : k < 2 ^ 28
  pub clear : ko + n ≤ ro
  pub room : ro + k * row_size ≤ length w

-- R4 on the triangles of a contour, whose vertices took these numbers
unfoldable pub contour_polygons : List Vertex → ℕ → List ℕ → ℕ → ℕ → List (List ℕ) → List Polygon
contour_polygons vs nvp numbers region code ts = merge_all vs nvp (map (contour_triangle numbers region code) ts)

-- those polygons stand at `at`, r of them, with zeros behind them up to k, and every other word is as it was. `count` and `is` fix all
pub record MeshedTo (w u : List ℕ) (vo nv at ko n to k nvp region code r : ℕ) : Type 0 where
  pub count : r ≡ length (contour_polygons (vertices_at w vo nv) nvp (view w ko n) region code (triangles_at w to k))
  pub is : u ≡ splice w at (polygon_records (contour_polygons (vertices_at w vo nv) nvp (view w ko n) region code (triangles_at w to k)) ++ replicate ((k - r) * polygon_size) 0)
  pub fewer : r ≤ k
  pub small : Every Small no_polygon (contour_polygons (vertices_at w vo nv) nvp (view w ko n) region code (triangles_at w to k))

-- the same, with zeros where the merge had its rows
pub record MeshedOver (w u : List ℕ) (vo nv at ko n to k nvp ro region code r : ℕ) : Type 0 where
  pub mid : List ℕ
  pub meshed : MeshedTo w mid vo nv at ko n to k nvp region code r
  pub is : u ≡ wiped mid ro k
