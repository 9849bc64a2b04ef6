-- Vertices, regions and codes that fit the words of the buffers. Definitions only.
use Rattle.std.specs.Prelude.{ℕ, ◌^◌, ◌<◌}
use Rattle.mem.specs.Packed.{Every}
use Rattle.rules.specs.declared.Vertex.{Vertex}
use Rattle.rules.specs.Weld.{no_vertex}
use Rattle.rules.specs.Mesh.{Polygon, no_polygon, Mesh}

-- a vertex of 16-bit numbers
pub record Narrow (v : Vertex) : Type 0 where
  pub x : v.x < 2 ^ 16
  pub y : v.y < 2 ^ 16
  pub z : v.z < 2 ^ 16

-- a region of 16 bits and a code of 8
pub record Tag (r c : ℕ) : Type 0 where
  pub region : r < 2 ^ 16
  pub code : c < 2 ^ 8

-- what is tagged so: polygons, sides, and points of a chain
abbrev pub Tagged : Polygon → Type 0
Tagged p = Tag p.region p.code

-- a mesh whose numbers fit
pub record NarrowMesh (m : Mesh) : Type 0 where
  pub vertices : Every Narrow no_vertex m.vertices
  pub polygons : Every Tagged no_polygon m.polygons
