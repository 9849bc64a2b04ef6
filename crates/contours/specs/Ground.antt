-- Where the mesh is built in the work buffer, and the buffer with a mesh in it. Definitions only.
use Rattle.std.specs.Prelude.{◌≡◌, List, ℕ, ◌+◌, ◌*◌, ◌^◌, ◌≤◌, ◌<◌, length, replicate}
use Rattle.mem.specs.Slice.{splice}
use Rattle.rules.specs.Mesh.{Mesh}
use Rattle.laws.specs.Removal.{Sound}
use Rattle.records.specs.Layout.{vertex_size, polygon_size, most_corners, vertices_at, marks_at, polygons_at, polygon_records}
use Rattle.weld.specs.Tables.{bucket_count, tabled}
use Rattle.weld.specs.declared.find.Tables.{Tables}
use Rattle.contours.specs.declared.ground.Ground.{Ground}

-- the weld's tables
abbrev pub tables_of : Ground → Tables
tables_of g = record { buckets = g.buckets; vertices = g.vertices; nexts = g.nexts }

-- where a contour is cut, behind the numbers that its vertices take
abbrev pub cutting_at : Ground → ℕ
cutting_at g = g.scratch + g.v

-- a buffer of so many words with the mesh m in it, and zeros everywhere else
unfoldable pub ground_in : ℕ → Ground → Mesh → List ℕ
ground_in size g m = splice (tabled (replicate size 0) (tables_of g) m.vertices m.marks) g.polygons (polygon_records m.polygons)

-- how many words of scratch there are for each vertex that has room: for its number, and to cut it
abbrev pub cut_room : ℕ
cut_room = 6

abbrev pub scratch_room : ℕ
scratch_room = 1 + cut_room

-- the parts lie one behind the other, in a buffer of so many words
pub record Fits (size : ℕ) (g : Ground) : Type 0 where
  pub buckets : g.buckets + bucket_count ≤ g.vertices
  pub vertices : g.vertices + g.v * vertex_size ≤ g.nexts
  pub nexts : g.nexts + g.v ≤ g.polygons
  pub polygons : g.polygons + g.t * polygon_size ≤ g.scratch
  pub scratch : g.scratch + g.v * scratch_room ≤ size

-- the mesh of nv vertices and np polygons that stands there
abbrev pub mesh_at : List ℕ → Ground → ℕ → ℕ → Mesh
mesh_at w g nv np = record { vertices = vertices_at w g.vertices nv; marks = marks_at w g.vertices nv; polygons = polygons_at w g.polygons np }

-- it stands there and nothing else does, and it has polygons of at most nvp corners
pub record Stands (w : List ℕ) (g : Ground) (nv np nvp : ℕ) : Type 0 where
  pub fits : Fits (length w) g
  pub is : w ≡ ground_in (length w) g (mesh_at w g nv np)
  pub sound : Sound nvp (mesh_at w g nv np)
  pub least : 3 ≤ nvp
  pub most : nvp ≤ most_corners
  pub few : g.v < 2 ^ 28
