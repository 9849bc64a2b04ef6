-- What the functions that add all contours ask for, and what they answer and leave. Assumes nothing.
-- Key: `same_contours`: for the contours the grid and the border don't matter.
use Rattle.std.specs.Prelude.{◌≡◌, Bool, List, length, replicate, Result, Ok, Err}
use Rattle.std.proofs.Math.Path.{refl, sym}
use Rattle.std.proofs.Common.{◌∙◌}
use Rattle.std.proofs.Math.Bool.{true, false}
use Prim.Native.Nat.{ℕ, zero, suc, ◌+◌, ◌≤◌}
use Rattle.std.proofs.Math.Dec.{ltb}
use Rattle.std.proofs.Math.ListN.{get_or}
use Rattle.rules.specs.Ears.{Ears, done, stuck, triangulate}
use Rattle.rules.specs.Mesh.{Mesh, no_mesh}
use Rattle.rules.specs.Job.{Job, count_v, count_t}
use Rattle.rules.specs.Build.{Contours, added, no_ear_in, add_from, add_all}
use Rattle.laws.specs.Checks.{Passed}
use Rattle.laws.proofs.Contours.{add_skip, add_stuck, add_done}
use Rattle.checks.specs.Answers.{job_of}
use Rattle.contours.specs.declared.ground.Ground.{Ground}
use Rattle.contours.specs.declared.ground.Contour.{Contour}
use Rattle.records.specs.declared.counts.Counts.{Counts}
use Rattle.ears.specs.declared.cut.NoEar.{NoEar}
use Rattle.contours.specs.declared.gather.NoEarIn.{NoEarIn}
use Rattle.contours.specs.Cutting.{places_in}
use Rattle.contours.specs.Ground.{Fits, Stands}
use Rattle.contours.specs.Adding.{AddReady, grown_by, counts, added_of}

-- ---- one contour, which may be skipped

-- contour c of these lists, which begins at the vertex `first`
abbrev pub contour_in : List ℕ → List ℕ → List ℕ → ℕ → ℕ → Contour
contour_in ls rs cs c first = record { first = first; n = get_or ls c 0; region = get_or rs c 0; code = get_or cs c 0 }

-- a mesh stands at g, and where the contour c isn't skipped it can be added
pub record NextReady (w ns : List ℕ) (g : Ground) (nv np nvp : ℕ) (c : Contour) : Type 0 where
  pub stands : Stands w g nv np nvp
  pub ready : 3 ≤ c.n → AddReady w ns g nv np nvp c

-- the mesh m once the contour was skipped or cut
unfoldable pub next_mesh : ℕ → List ℕ → Contour → Mesh → Mesh
next_mesh nvp ns c m = elim (ltb c.n 3) [ true ↦ m | false ↦ grown_by nvp ns c m (triangulate (places_in ns c.first c.n)) ]

-- and the answer
unfoldable pub next_answer : ℕ → List ℕ → Contour → Mesh → Result Counts NoEar
next_answer nvp ns c m = elim (ltb c.n 3) [
  | true ↦ Ok (counts (length m.vertices) (length m.polygons))
  | false ↦ added_of (grown_by nvp ns c m (triangulate (places_in ns c.first c.n))) (triangulate (places_in ns c.first c.n))
]

-- ---- all contours

-- the buffer has zeros and nothing else, with room for the mesh of a job that passes the checks
pub record GatherReady (w : List ℕ) (g : Ground) (j : Job) : Type 0 where
  pub blank : w ≡ replicate (length w) 0
  pub fits : Fits (length w) g
  pub ls : List ℕ
  pub passed : Passed j ls
  pub v : g.v ≡ count_v j
  pub t : g.t ≡ count_t j

-- contour c has no ear to cut, after k triangles
abbrev pub no_ear_of : ℕ → ℕ → NoEarIn
no_ear_of c k = record { contour = c; after = k }

-- the answer, for each of the rules' cases
unfoldable pub gathered_of : Contours → Result Counts NoEarIn
gathered_of (added m) = Ok (counts (length m.vertices) (length m.polygons))
gathered_of (no_ear_in c k) = Err (no_ear_of c k)

-- the mesh that is left in the buffer
unfoldable pub mesh_of : Contours → Mesh
mesh_of (added m) = m
mesh_of (no_ear_in c k) = no_mesh

-- ---- for those who call: any grid and any border will do

module _ (nvp w h border : ℕ) (ls rs cs ns : List ℕ) where
  same_from : (f c first : ℕ) (m : Mesh) → add_from f (job_of nvp w h border ls rs cs ns) c first m ≡ add_from f (job_of nvp 0 0 0 ls rs cs ns) c first m
  unfolding add_from
  same_from zero c first m = refl
  same_from (suc f) c first m =
      let j = job_of nvp w h border ls rs cs ns in
      let i = job_of nvp 0 0 0 ls rs cs ns in
      let n = get_or ls c 0 in
      let t = triangulate (places_in ns first n) in
      (elim (ltb n 3) as (λ (b : Bool). ltb n 3 ≡ b → add_from (suc f) j c first m ≡ add_from (suc f) i c first m) [
        | true ↦ λ e. add_skip f j c first m e ∙ same_from f (c + 1) (first + n) m ∙ sym (add_skip f i c first m e)
        | false ↦ λ e.
            (elim t as (λ (x : Ears). t ≡ x → add_from (suc f) j c first m ≡ add_from (suc f) i c first m) [
              | stuck k ↦ λ d. add_stuck f j c first m k e d ∙ sym (add_stuck f i c first m k e d)
              | done ts ↦ λ d. add_done f j c first m ts e d ∙ same_from f (c + 1) (first + n) _ ∙ sym (add_done f i c first m ts e d)
            ]) refl
      ]) refl

  pub same_contours : add_all (job_of nvp w h border ls rs cs ns) ≡ add_all (job_of nvp 0 0 0 ls rs cs ns)
  unfolding add_all
  same_contours = same_from (length ls) 0 0 no_mesh
