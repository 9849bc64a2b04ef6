-- A mesh in the work buffer: its vertices, its polygons, and behind them scratch for the removal of a vertex, each with zeros up to the end of its room.
-- Definitions only.
use Rattle.std.specs.Prelude.{◌≡◌, List, [], ℕ, ◌+◌, ◌*◌, ◌^◌, ◌≤◌, ◌<◌, length}
use Rattle.mem.specs.Shelves.{shelved}
use Rattle.mem.specs.Zeros.{with_zeros}
use Rattle.rules.specs.Mesh.{Mesh}
use Rattle.laws.specs.Measures.{spares_in}
use Rattle.laws.specs.Removal.{Sound}
use Rattle.records.specs.Layout.{vertex_size, vertices_at, marks_at, vertex_records, polygon_size, most_corners, polygons_at, polygon_records}
use Rattle.trails.specs.Trails.{walk_room}
use Rattle.removals.specs.declared.site.Site.{Site}
use Rattle.records.specs.declared.counts.Counts.{Counts}

-- the mesh that stands there
abbrev pub mesh_at : List ℕ → Site → Counts → Mesh
mesh_at w s n = record {
  vertices = vertices_at w s.vertices n.vertices;
  marks = marks_at w s.vertices n.vertices;
  polygons = polygons_at w s.polygons n.polygons;
}

-- how many words of scratch there are for each polygon that has room: for the walk along a side, and for the cutting of a point of the hole
abbrev pub cut_room : ℕ
cut_room = 6

abbrev pub scratch_room : ℕ
scratch_room = walk_room + cut_room

-- the buffer w with the words vs at the vertices, ps at the polygons and ss in the scratch, zeros behind each of them, and every other word as it is in w
unfoldable pub standing : List ℕ → Site → List ℕ → List ℕ → List ℕ → List ℕ
standing w s vs ps ss =
    shelved w s.vertices (with_zeros (s.v * vertex_size) vs) s.polygons (with_zeros (s.t * polygon_size) ps) s.scratch (with_zeros (s.t * scratch_room) ss)

-- with the mesh m there, and zeros in the scratch
unfoldable pub mesh_in : List ℕ → Site → Mesh → List ℕ
mesh_in w s m = standing w s (vertex_records m.vertices m.marks) (polygon_records m.polygons) []

-- the places lie one behind the other, and in the buffer
pub record Fits (w : List ℕ) (s : Site) : Type 0 where
  pub vertices : s.vertices + s.v * vertex_size ≤ s.polygons
  pub polygons : s.polygons + s.t * polygon_size ≤ s.scratch
  pub scratch : s.scratch + s.t * scratch_room ≤ length w

-- a mesh stands there, and nothing else: polygons of at most nvp corners, whose corners beyond two are no more than t
pub record Stands (w : List ℕ) (s : Site) (n : Counts) (nvp : ℕ) : Type 0 where
  pub fits : Fits w s
  pub is : w ≡ mesh_in w s (mesh_at w s n)
  pub sound : Sound nvp (mesh_at w s n)
  pub least : 3 ≤ nvp
  pub most : nvp ≤ most_corners
  pub vertices : n.vertices ≤ s.v
  pub spares : spares_in (mesh_at w s n).polygons ≤ s.t
  pub v_few : s.v < 2 ^ 32
  pub t_few : s.t < 2 ^ 27
