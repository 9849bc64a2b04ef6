-- What the function that adds one contour asks for, and what it answers and leaves. Definitions only.
use Rattle.std.specs.Prelude.{List, ℕ, ◌+◌, ◌-◌, ◌*◌, ◌≤◌, ◌<◌, length, Result, Ok, Err}
use Rattle.rules.specs.Plane.{on_plane, InGrid}
use Rattle.rules.specs.Ears.{Ears, done, stuck}
use Rattle.rules.specs.Mesh.{Mesh}
use Rattle.rules.specs.Job.{job_stride, vertex_at, contour_vertices, contour_flags}
use Rattle.rules.specs.Build.{weld_height, add_contour}
use Rattle.contours.specs.declared.ground.Ground.{Ground}
use Rattle.contours.specs.declared.ground.Contour.{Contour}
use Rattle.records.specs.declared.counts.Counts.{Counts}
use Rattle.ears.specs.declared.cut.NoEar.{NoEar}
use Rattle.ears.specs.Part.{no_ear}
use Rattle.contours.specs.Ground.{Stands}

-- a mesh stands at g, with room for the vertices and the triangles of the contour c, which has three vertices or more, all on the grid
pub record AddReady (w ns : List ℕ) (g : Ground) (nv np nvp : ℕ) (c : Contour) : Type 0 where
  pub stands : Stands w g nv np nvp
  pub vertices : nv + c.n ≤ g.v
  pub polygons : np + (c.n - 2) ≤ g.t
  pub some : 3 ≤ c.n
  pub input : (c.first + c.n) * job_stride ≤ length ns
  pub grid : (k : ℕ) → k < c.n → InGrid (on_plane (vertex_at ns (c.first + k)))

-- the mesh m once the contour c was cut like this: its triangles are added, or the mesh is as it was
unfoldable pub grown_by : ℕ → List ℕ → Contour → Mesh → Ears → Mesh
grown_by nvp ns c m (done ts) = add_contour weld_height nvp c.region c.code (contour_vertices ns c.first c.n) (contour_flags ns c.first c.n) ts m
grown_by nvp ns c m (stuck k) = m

-- n vertices and k polygons
abbrev pub counts : ℕ → ℕ → Counts
counts n k = record { vertices = n; polygons = k }

-- the answer, where m is that mesh
unfoldable pub added_of : Mesh → Ears → Result Counts NoEar
added_of m (done ts) = Ok (counts (length m.vertices) (length m.polygons))
added_of m (stuck k) = Err (no_ear k)
