-- What the functions of a removal ask for, and what they leave. Definitions only.
use Rattle.std.specs.Prelude.{◌≡◌, List, ◌++◌, ℕ, ◌-◌, ◌*◌, ◌≤◌, ◌<◌, length, replicate, Option, Some, None, Result, Ok, Err}
use Rattle.mem.specs.Slice.{splice}
use Rattle.rules.specs.Lists.{without}
use Rattle.rules.specs.Mesh.{no_polygon, Mesh, no_mesh}
use Rattle.rules.specs.Removal as Rules
use Rattle.rules.specs.Removal.{polygons_left, sides_left, walk, hole_of}
use Rattle.rules.specs.declared.ChainPoint.{ChainPoint}
use Rattle.laws.specs.Removal.{Removable}
use Rattle.records.specs.Layout.{vertex_records, polygon_records, point_size, points_at, point_records}
use Rattle.removals.specs.declared.site.Site.{Site}
use Rattle.records.specs.declared.counts.Counts.{Counts}
use Rattle.removals.specs.declared.open.Hole.{Hole}
use Rattle.removals.specs.declared.all.NoEarAt.{NoEarAt}
use Rattle.removals.specs.Site.{mesh_at, standing, Stands}

-- the hole that the n points at q make: r says how many points it has, and with one fewer zeros come in at the end. `count` and `is` fix all
pub record ClosedTo (w u : List ℕ) (q n r : ℕ) : Type 0 where
  pub count : r ≡ length (hole_of (points_at w q n))
  pub is : u ≡ splice w q (point_records (hole_of (points_at w q n)) ++ replicate ((n - r) * point_size) 0)
  pub fewer : r ≤ n

-- ---- the vertex goes, and a hole is left

-- a mesh stands at s, and the vertex is one that can go
pub record RemoveReady (w : List ℕ) (s : Site) (n : Counts) (nvp rem : ℕ) : Type 0 where
  pub stands : Stands w s n nvp
  pub below : rem < n.vertices
  pub may : Removable rem (mesh_at w s n).polygons

-- the hole around the vertex
unfoldable pub hole_around : ℕ → Mesh → List ChainPoint
hole_around rem m = hole_of (walk (sides_left rem m.polygons)).chain

-- the buffer w with what is left of the mesh m: blank records in the place of the polygons that went, and the hole's points in the scratch
unfoldable pub opened_in : List ℕ → Site → ℕ → Mesh → List ℕ
opened_in w s rem m =
    let ps = polygons_left rem m.polygons in
    standing w s (vertex_records (without m.vertices rem) (without m.marks rem))
    (polygon_records (ps ++ replicate (length m.polygons - length ps) no_polygon))
    (point_records (hole_around rem m))

-- `left`, `points` and `is` fix all; the other follows from them, and spares the callers the way there
pub record OpenedTo (w u : List ℕ) (s : Site) (n : Counts) (rem : ℕ) (r : Hole) : Type 0 where
  pub left : r.left ≡ length (polygons_left rem (mesh_at w s n).polygons)
  pub points : r.points ≡ length (hole_around rem (mesh_at w s n))
  pub is : u ≡ opened_in w s rem (mesh_at w s n)
  pub fewer : r.left ≤ n.polygons

-- ---- the hole is filled

-- what the removal answers: how many polygons there are then, or that there was no ear to cut
unfoldable pub removed_to : Rules.Removed → Option ℕ
removed_to (Rules.gone m r) = Some (length m.polygons)
removed_to Rules.no_ears = None

-- and the mesh that stands there then: none if there was no ear to cut
unfoldable pub mesh_after : Rules.Removed → Mesh
mesh_after (Rules.gone m r) = m
mesh_after Rules.no_ears = no_mesh

-- ---- all marked vertices are tried

-- how many vertices and polygons a mesh has
abbrev pub counts_of : Mesh → Counts
counts_of m = record { vertices = length m.vertices; polygons = length m.polygons }

-- the hole of vertex i has no ear to cut
abbrev pub no_ear_at : ℕ → NoEarAt
no_ear_at i = record { vertex = i }

-- what trying all answers: how many vertices and polygons are left, or the vertex whose hole has no ear
unfoldable pub tried_to : Rules.Removals → Result Counts NoEarAt
tried_to (Rules.removed m log) = Ok (counts_of m)
tried_to (Rules.stuck_at i) = Err (no_ear_at i)

-- and the mesh that stands there then: none if a hole has no ear
unfoldable pub mesh_left : Rules.Removals → Mesh
mesh_left (Rules.removed m log) = m
mesh_left (Rules.stuck_at i) = no_mesh
