-- What a mesh is, between the rules: vertices with their marks, and polygons as lists of corners. Definitions only.
use Rattle.std.specs.Prelude.{List, [], ℕ, ◌%◌, length, get_or}
use Rattle.rules.specs.Lists.{next}
use Rattle.rules.specs.Plane.{on_plane}
use Rattle.rules.specs.Weld.{no_vertex}
use Rattle.rules.specs.declared.Point.{Point}
use Rattle.rules.specs.declared.Vertex.{Vertex}

-- a polygon: the numbers of its corners' vertices, its region and its area code
pub record Polygon : Type 0 where
  pub corners : List ℕ
  pub region : ℕ
  pub code : ℕ

abbrev pub no_polygon : Polygon
no_polygon = record { corners = []; region = 0; code = 0 }

-- the mesh as it is built; a mark is 1 where the vertex is to be removed, else 0
pub record Mesh : Type 0 where
  pub vertices : List Vertex
  pub marks : List ℕ
  pub polygons : List Polygon

abbrev pub no_mesh : Mesh
no_mesh = record { vertices = []; marks = []; polygons = [] }

-- polygon i of a list
abbrev pub polygon_at : List Polygon → ℕ → Polygon
polygon_at ps i = get_or ps i no_polygon

-- side j runs from corner j to the corner after it, the last one to the first corner
abbrev pub side_start : List ℕ → ℕ → ℕ
side_start cs j = get_or cs j 0

abbrev pub side_end : List ℕ → ℕ → ℕ
side_end cs j = get_or cs (next j (length cs)) 0

-- the corner at k, counted round and round
abbrev pub corner_round : List ℕ → ℕ → ℕ
corner_round cs k = get_or cs (k % length cs) 0

-- where vertex n stands
unfoldable pub place_of : List Vertex → ℕ → Point
place_of vs n = on_plane (get_or vs n no_vertex)
