-- Request 7, the checker of meshes from elsewhere: what it is asked, and its verdict. Definitions; at the end what is proved of it, in crate `laws`.
use Rattle.std.specs.Prelude.{◌≡◌, Bool, ◌||◌, cond, ◌↔◌, List, [], ◌∷◌, ℕ, ◌*◌, ◌≤◌, ◌<◌, eqb, ltb, ℤ, ◌-ℤ◌, length, take, Option, Some, None, Result, Ok, Err, ⊤}
use Rattle.rules.specs.Plane.{is_zero}
use Rattle.rules.specs.Mesh.{Mesh, polygon_at, side_start, side_end, place_of}
use Rattle.rules.specs.Removal.{Removal}
use Rattle.rules.specs.Links.{none}
use Rattle.rules.specs.Portals.{portal_of}
use Rattle.rules.specs.Job.{Job}
use Rattle.rules.specs.Checks.{Lent, vertex_stride}
use Rattle.rules.specs.Replies.{Reply, as_built}
use Rattle.rules.specs.Build.{built, outcome, reply_of}
use Rattle.rules.specs.Exits.{decoded, exits}
use Rattle.rules.specs.Areas.{stored_area}
use Rattle.rules.specs.Handed.{Handed, polygon_count, mesh_in, corners_at, link_at, all_of, first_fault, soundness, NamedBack, Consistent}
use Rattle.rules.specs.Handed.{fault_number, fault_second}
use Rattle.rules.specs.declared.Vertex.{Vertex}
use Rattle.rules.specs.declared.Objection.{Objection}
use Rattle.rules.specs.declared.Objection.TheVariants.{Unsound, BadPortals, BadArea}

-- ---- what is asked

-- "Given vertices, polygons, links, w, h, border, nvp and a claimed total"
pub record Claim : Type 0 where
  pub mesh : Handed
  pub w : ℕ
  pub h : ℕ
  pub border : ℕ
  pub total : ℤ

-- ---- the tests of 43 and 44

-- what R7 gives an open side: a portal or none; and none if the border is 0
unfoldable pub open_link : List Vertex → ℕ → ℕ → ℕ → List ℕ → ℕ → ℕ
open_link vs w h border cs j =
    cond (ltb 0 border) (portal_of w h (place_of vs (side_start cs j)) (place_of vs (side_end cs j))) none

-- 43: "each open side bears what R7 gives"
unfoldable pub portal_holds : Claim → ℕ → ℕ → Bool
portal_holds c i j =
    let s = mesh_in c.mesh in
    let l = link_at s.links i j in
    ltb l none || eqb l (open_link s.vertices c.w c.h c.border (corners_at s i) j)

unfoldable pub portals_hold : Claim → ℕ → Bool
portals_hold c i = all_of (portal_holds c i) 0 (length (corners_at (mesh_in c.mesh) i))

-- 44: "the doubled areas sum to the claim"
unfoldable pub area_holds : Claim → Bool
area_holds c = is_zero (stored_area (mesh_in c.mesh) -ℤ c.total)

-- ---- the verdict

-- "43 portals, .. with the first polygon at fault; 44 area, with 0"
unfoldable pub sound_verdict : Claim → Option ℕ → Result ⊤ Objection
sound_verdict c (Some i) = Err (BadPortals i)
sound_verdict c None = cond (area_holds c) (Ok tt) (Err BadArea)

-- "Refusals, in this order: 40 ..; 41 corners, 42 links, 43 portals, ..; 44 area"
unfoldable pub verdict : Claim → Result ⊤ Objection
verdict c = elim (soundness c.mesh) [
  | Err f ↦ Err (Unsound f)
  | Ok _ ↦ sound_verdict c (first_fault (portals_hold c) (polygon_count c.mesh))
]

-- an objection's number, and its second number
unfoldable pub objection_number : Objection → ℕ
objection_number (Unsound f) = fault_number f
objection_number (BadPortals i) = 43
objection_number BadArea = 44

unfoldable pub objection_second : Objection → ℕ
objection_second (Unsound f) = fault_second f
objection_second (BadPortals i) = i
objection_second BadArea = 0

-- a verdict's number, 0 if it is accepted, and its second number
unfoldable pub verdict_number : Result ⊤ Objection → ℕ
verdict_number (Ok _) = 0
verdict_number (Err o) = objection_number o

unfoldable pub verdict_second : Result ⊤ Objection → ℕ
verdict_second (Ok _) = 0
verdict_second (Err o) = objection_second o

-- .. as three numbers; the third is 0
unfoldable pub verdict_words : Result ⊤ Objection → List ℕ
verdict_words v = verdict_number v ∷ verdict_second v ∷ 0 ∷ []

-- ---- "accept exactly when": the sentences, with no order and no test. Proved in crate `laws`: `AcceptsExactly`

abbrev pub GoodPortals : Claim → ℕ → Type 0
GoodPortals c i = let s = mesh_in c.mesh in (j : ℕ) → j < length (corners_at s i) → none ≤ link_at s.links i j
    → link_at s.links i j ≡ open_link s.vertices c.w c.h c.border (corners_at s i) j

pub record Acceptable (c : Claim) : Type 0 where
  pub consistent : Consistent c.mesh
  pub portals : (i : ℕ) → i < polygon_count c.mesh → GoodPortals c i
  pub area : stored_area (mesh_in c.mesh) ≡ c.total

abbrev pub AcceptsExactly : Type 0
AcceptsExactly = (c : Claim) → (verdict c ≡ Ok tt) ↔ Acceptable c

-- ---- "Every mesh we build, with its own total, is accepted." Proved in crate `laws`

-- R6, of every mesh that is built: a link that names a polygon is named back
abbrev pub LinkLaw : Type 0
LinkLaw = (j : Job) (b : Lent) (m : Mesh) (ls : List (List ℕ)) (log : List Removal) → outcome j b ≡ built m ls log
    → (i k : ℕ) → i < length m.polygons → k < length (polygon_at m.polygons i).corners → link_at ls i k < none → NamedBack m.polygons ls i k

-- R7, of every mesh that is built: any other side bears what R7 gives
abbrev pub OpenLaw : Type 0
OpenLaw = (j : Job) (b : Lent) (m : Mesh) (ls : List (List ℕ)) (log : List Removal) → outcome j b ≡ built m ls log
    → (i k : ℕ) → i < length m.polygons → k < length (polygon_at m.polygons i).corners → none ≤ link_at ls i k
    → link_at ls i k ≡ open_link m.vertices j.w j.h j.border (polygon_at m.polygons i).corners k

-- a mesh of n polygons and k vertices as it lies in the lent buffers, cut to its length
unfoldable pub handed_on : ℕ → Lent → ℕ → ℕ → Handed
handed_on nvp b n k = record {
  nvp = nvp;
  vertices = take (k * vertex_stride) b.vertices;
  polygons = take (n * nvp) b.polygons;
  links = take (n * nvp) b.neighbours;
}

-- .. with the total that it has there, on a job's grid
unfoldable pub own_claim : Job → Lent → ℕ → ℕ → Claim
own_claim j b n k = record { mesh = handed_on j.nvp b n k; w = j.w; h = j.h; border = j.border; total = stored_area (decoded j.nvp n k b) }

-- what a job's build answers, and what it leaves in the buffers: if it is a mesh, that mesh is accepted. An `ensures` of `into_polygon_mesh`
abbrev pub OwnAccepted : Job → Reply → Lent → Type 0
OwnAccepted j r b = (n k : ℕ) → r ≡ Ok (as_built n k) → verdict (own_claim j b n k) ≡ Ok tt

-- .. of every job, in any buffers
abbrev pub EachAccepted : Type 0
EachAccepted = (j : Job) (b : Lent) → OwnAccepted j (reply_of (outcome j b)) (exits j b)
