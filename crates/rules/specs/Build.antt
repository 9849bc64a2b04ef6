-- The build: the checks, the contours one after the other, the removals, the links; what it comes to, and its reply. Definitions only.
use Rattle.std.specs.Prelude.{true, false, List, [], ◌++◌, map, ℕ, zero, suc, ◌+◌, ltb, length, get_or, Ok, Err}
use Rattle.rules.specs.Plane.{on_plane}
use Rattle.rules.specs.Ears.{done, stuck, triangulate}
use Rattle.rules.specs.Weld.{weld_all}
use Rattle.rules.specs.Mesh.{Polygon, Mesh, no_mesh}
use Rattle.rules.specs.Merge.{merge_all}
use Rattle.rules.specs.Removal.{Removal, Removals, removed, stuck_at, remove_all}
use Rattle.rules.specs.Links.{links_of}
use Rattle.rules.specs.Portals.{portals}
use Rattle.rules.specs.Job.{Job, contour_vertices, contour_flags}
use Rattle.rules.specs.Replies.{Reply, as_built}
use Rattle.rules.specs.Checks.{Lent, lengths_of, Checked, passed, refusal, check}
use Rattle.rules.specs.declared.Vertex.{Vertex}
use Rattle.rules.specs.declared.Header.{Header}
use Rattle.rules.specs.declared.Answer.{Answer}
use Rattle.rules.specs.declared.Refusal.{Refusal}
use Rattle.rules.specs.declared.Refusal.TheVariants.{NoEarInContour, NoEarInHole}

-- ---- the contours

-- R3: "y differing by at most 2"
abbrev pub weld_height : ℕ
weld_height = 2

-- "Stored polygons bear their contour's region and code.": a triangle of the contour's vertices, which took these numbers
unfoldable pub contour_triangle : List ℕ → ℕ → ℕ → List ℕ → Polygon
contour_triangle numbers region code t = record { corners = map (λ k. get_or numbers k 0) t; region = region; code = code }

-- the mesh with one more contour: its vertices welded (R3), its triangles ts merged (R4), and stored behind the mesh's polygons
unfoldable pub add_contour : ℕ → ℕ → ℕ → ℕ → List Vertex → List ℕ → List (List ℕ) → Mesh → Mesh
add_contour height nvp region code vs flags ts m =
    let s = weld_all height vs flags (record { vertices = m.vertices; marks = m.marks; numbers = [] }) in
    record {
      vertices = s.vertices;
      marks = s.marks;
      polygons = m.polygons ++ merge_all s.vertices nvp (map (contour_triangle s.numbers region code) ts);
    }

-- all contours added; or the one that has no ear to cut, with how many triangles were cut from it already (the reply says only which one)
pub data Contours : Type 0 where
  added : Mesh → Contours
  no_ear_in : ℕ → ℕ → Contours

-- "Contours in order"; "Shorter contours are skipped". Contour c begins at the vertex `first`; f contours are left
unfoldable pub add_from : ℕ → Job → ℕ → ℕ → Mesh → Contours
add_from zero j c first m = added m
add_from (suc f) j c first m =
    let n = get_or j.lengths c 0 in
    let vs = contour_vertices j.numbers first n in
    elim (ltb n 3) [
      | true ↦ add_from f j (c + 1) (first + n) m
      | false ↦ elim (triangulate (map on_plane vs)) [
        | stuck k ↦ no_ear_in c k
        | done ts ↦ add_from f j (c + 1) (first + n)
            (add_contour weld_height j.nvp (get_or j.regions c 0) (get_or j.codes c 0) vs (contour_flags j.numbers first n) ts m)
      ]
    ]

unfoldable pub add_all : Job → Contours
add_all j = add_from (length j.lengths) j 0 0 no_mesh

-- ---- the whole

-- what a build comes to: a refusal; or the mesh, the links of its polygons' sides, and the log of its removals
pub data Outcome : Type 0 where
  refused : Refusal → Outcome
  built : Mesh → List (List ℕ) → List Removal → Outcome

-- R6 and R7, once all vertices are tried; 8: "a hole has no ear to cut"; "vertex number when tried"
unfoldable pub linked : Job → Removals → Outcome
linked j (stuck_at i) = refused (NoEarInHole i)
linked j (removed m log) = built m (portals m.vertices j.w j.h j.border m.polygons (links_of m.polygons)) log

-- R5, once all contours are added; 7: "a contour has no ear to cut"; "contour number from 0, skipped ones counted"
unfoldable pub cleared : Job → Contours → Outcome
cleared j (no_ear_in c k) = refused (NoEarInContour c)
cleared j (added m) = linked j (remove_all j.nvp m)

-- the checks, and then the build
unfoldable pub after_check : Job → Checked → Outcome
after_check j (refusal r) = refused r
after_check j passed = cleared j (add_all j)

unfoldable pub outcome : Job → Lent → Outcome
outcome j b = after_check j (check j (lengths_of b))

-- ---- the reply

-- 0: "polygon count (and, only here, a third number: the vertex count ..)"
unfoldable pub reply_of : Outcome → Reply
reply_of (refused r) = Err r
reply_of (built m ls log) = Ok (as_built (length m.polygons) (length m.vertices))

-- "The header comes back bit for bit, also with a refusal.": it is beside the reply, and the build never looks at it
unfoldable pub answer : Header → Job → Lent → Answer
answer h j b = record { reply = reply_of (outcome j b); header = h }
