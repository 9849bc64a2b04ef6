-- Of every job that is built, ground is neither lost nor cut twice. Assumes nothing.
-- Key: `balanced`: areas and corners of a mesh that is built, against the log; `bounded`: it has at most T polygons and V vertices, and is sound.
use Rattle.std.specs.Prelude.{ℕ, zero, suc, ◌+◌, ◌^◌, ◌≤◌, ◌<◌, ◌≡◌, Bool, true, false, eqb, length, get_or, ℤ, ◌+ℤ◌, ◌-ℤ◌}
use Rattle.std.proofs.Common.{arith, sym, ◌∙◌, ap}
use Rattle.std.proofs.Math.Path.{refl}
use mathlib.Core.List.{List, [], ◌∷◌, ◌++◌}
use Rattle.std.proofs.Math.IntN.{+ℤ_idl, +ℤ_idr}
use Rattle.ints.specs.Bools.{and_right}
use Rattle.ints.specs.Ring.{at, nat, ◌⊕◌, ◌⊖◌, is_eq}
use Rattle.rules.specs.declared.Refusal.{Refusal}
use Rattle.rules.specs.declared.Refusal.TheVariants.{NoEarInContour, NoEarInHole}
use Rattle.rules.specs.Mesh.{Mesh, no_mesh}
use Rattle.rules.specs.Removal.{Removal, Removed, gone, no_ears, remove_vertex, can_remove, Removals, removed, stuck_at, goes, remove_from, remove_all}
use Rattle.rules.specs.Job.{Job, sum_over, count_all, count_v, count_t}
use Rattle.rules.specs.Checks.{Lent, Checked, passed, refusal, check, lengths_of}
use Rattle.rules.specs.Build.{Contours, added, no_ear_in, add_all, refused, built, linked, cleared, after_check, outcome}
use Rattle.rules.specs.Areas.{sum_of, mesh_area, job_area, area_taken}
use Rattle.laws.specs.Measures.{spares_in, taken_by}
use Rattle.laws.specs.Lists.{All, none, total}
use Rattle.laws.proofs.Lists.{all_imp, sum_append, total_append}
use Rattle.laws.specs.Removal.{Sound, Step, Removable}
use Rattle.laws.proofs.Removal.{removable, removed_ok, corners_removed}
use Rattle.laws.specs.Merge.{Good, Below, Long}
use Rattle.laws.proofs.Merge.{polygons_few}
use Rattle.laws.specs.Checks.{Passed}
use Rattle.laws.proofs.Checks.{checked, T-below-V}
use Rattle.laws.proofs.Contours.{contours_added}
use Rattle.laws.specs.Build.{Balanced, Bounded}

-- ---- all removals

taken_snoc : (log : List Removal) (r : Removal) → sum_of area_taken (log ++ (r ∷ [])) ≡ sum_of area_taken log +ℤ area_taken r
unfolding sum_of
taken_snoc log r = sum_append area_taken log (r ∷ []) ∙ ap (λ (z : ℤ). sum_of area_taken log +ℤ z) (+ℤ_idr (area_taken r))

corners_snoc : (log : List Removal) (r : Removal) → total taken_by (log ++ (r ∷ [])) ≡ total taken_by log + taken_by r
unfolding total
corners_snoc log r = omega (arith, total_append taken_by log (r ∷ []))

balanced_step : (nvp : ℕ) (z : ℤ) (t v : ℕ) (m u : Mesh) (log : List Removal) (r : Removal) → Balanced nvp z t v m log → Step nvp m u r
    → spares_in u.polygons + taken_by r ≡ spares_in m.polygons → Balanced nvp z t v u (log ++ (r ∷ []))
balanced_step nvp z t v m u log r b s c = record {
  areas = s.areas ∙ ap (λ (y : ℤ). y -ℤ area_taken r) b.areas
      ∙ rw (taken_snoc log r) (is_eq (at z ⊖ at (sum_of area_taken log) ⊖ at (area_taken r)) (at z ⊖ (at (sum_of area_taken log) ⊕ at (area_taken r))) (omega arith));
  spares = omega (arith, corners_snoc log r, b.spares);
  vertices = omega (arith, s.vertices, b.vertices);
  sound = s.sound;
}

pub long_enough : (nvp : ℕ) (m : Mesh) → Sound nvp m → All Long m.polygons
long_enough nvp m s = all_imp (λ p (k : Good (Below (length m.vertices)) nvp p). k.long) s.good

module _ (f nvp i : ℕ) (m : Mesh) (log : List Removal) where
  pub from_false : goes i m ≡ false → remove_from (suc f) nvp i m log ≡ remove_from f nvp (i + 1) m log
  unfolding remove_from
  from_false e = rw (e, remove_from) refl

  pub from_gone : (u : Mesh) (r : Removal) → goes i m ≡ true → remove_vertex nvp i m ≡ gone u r → remove_from (suc f) nvp i m log ≡ remove_from f nvp i u (log ++ (r ∷ []))
  unfolding remove_from
  from_gone u r e q = rw (e, remove_from, q) refl

  pub from_stuck : goes i m ≡ true → remove_vertex nvp i m ≡ no_ears → remove_from (suc f) nvp i m log ≡ stuck_at i
  unfolding remove_from
  from_stuck e q = rw (e, remove_from, q) refl

pub goes_may : (i : ℕ) (m : Mesh) → goes i m ≡ true → Removable i m.polygons
unfolding goes
goes_may i m e = removable i m.polygons (and_right (eqb (get_or m.marks i 0) 1) (can_remove i m.polygons) e)

pub not_stuck : (i : ℕ) (m : Mesh) (log : List Removal) → stuck_at i ≡ removed m log → ⊥
not_stuck i m log e = let z : ◌≡◌ {A = ℕ} 0 1 = cc in omega arith

pub removals : (f nvp i : ℕ) (z : ℤ) (t v : ℕ) (m : Mesh) (log : List Removal) (m' : Mesh) (log' : List Removal) → 3 ≤ nvp → t < 2 ^ 28 → i + f ≡ length m.vertices
    → Balanced nvp z t v m log → remove_from f nvp i m log ≡ removed m' log' → Balanced nvp z t v m' log'
unfolding remove_from
removals zero nvp i z t v m log m' log' three few e b q = let x : m ≡ m' = cc in let y : log ≡ log' = cc in rw (← x, ← y) b
removals (suc f) nvp i z t v m log m' log' three few e b q =
    (elim (goes i m) as (λ (x : Bool). goes i m ≡ x → Balanced nvp z t v m' log') [
      | false ↦ λ k. removals f nvp (i + 1) z t v m log m' log' three few (omega arith) b (sym (from_false f nvp i m log k) ∙ q)
      | true ↦ λ k.
          (elim (remove_vertex nvp i m) as (λ (x : Removed). remove_vertex nvp i m ≡ x → Balanced nvp z t v m' log') [
            | gone u r ↦ λ p.
                let s = removed_ok nvp i m u r three (omega arith) b.sound (omega (arith, b.spares)) (goes_may i m k) p in
                let c = corners_removed nvp i m u r three (long_enough nvp m b.sound) (goes_may i m k) p in
                removals f nvp i z t v u (log ++ (r ∷ [])) m' log' three few (omega (arith, s.vertices)) (balanced_step nvp z t v m u log r b s c.spares)
                (sym (from_gone f nvp i m log u r k p) ∙ q)
            | no_ears ↦ λ p. absurd (not_stuck i m' log' (sym (from_stuck f nvp i m log k p) ∙ q))
          ]) refl
    ]) refl

-- ---- the whole
no_mesh_lem : (nvp : ℕ) → Sound nvp no_mesh
no_mesh_lem nvp = record { good = none; marked = refl; grid = none }

-- all contours, added to no mesh
pub all_added : (j : Job) (ls : List ℕ) (m : Mesh) → Passed j ls → add_all j ≡ added m → Balanced j.nvp (job_area j) (count_t j) (count_v j) m []
unfolding add_all job_area count_t count_v count_all sum_over sum_of total mesh_area
all_added j ls m p e =
    let g = contours_added (length j.lengths) j ls 0 0 no_mesh m p (omega arith) (omega arith) (no_mesh_lem j.nvp) e in
    record {
      areas = g.areas ∙ +ℤ_idl (job_area j) ∙ is_eq (at (job_area j)) (at (job_area j) ⊖ nat 0) (omega arith);
      spares = omega (arith, g.spares);
      vertices = omega (arith, g.vertices);
      sound = g.sound;
    }

-- the goal, where r is what the rest comes to
module _ (j : Job) (m : Mesh) (ls : List (List ℕ)) (log : List Removal) where
  pub no_refusal : (r : Refusal) → refused r ≡ built m ls log → ⊥
  no_refusal r e = let z : ◌≡◌ {A = ℕ} 0 1 = cc in omega arith

  after_removals : (ns : List ℕ) (p : Passed j ns) (u : Mesh) → Balanced j.nvp (job_area j) (count_t j) (count_v j) u [] → (r : Removals) → remove_all j.nvp u ≡ r → linked j r ≡ built m ls log → Balanced j.nvp (job_area j) (count_t j) (count_v j) m log
  unfolding linked remove_all
  after_removals ns p u s (stuck_at i) q e = absurd (no_refusal (NoEarInHole i) e)
  after_removals ns p u s (removed v l) q e =
      let a : v ≡ m = cc in let b : l ≡ log = cc in
      rw (← a, ← b) (removals (length u.vertices) j.nvp 0 (job_area j) (count_t j) (count_v j) u [] v l p.nvp_low (omega (arith, T-below-V j, p.few)) (omega arith) s q)

  after_contours : (ns : List ℕ) (p : Passed j ns) (c : Contours) → add_all j ≡ c → cleared j c ≡ built m ls log → Balanced j.nvp (job_area j) (count_t j) (count_v j) m log
  unfolding cleared
  after_contours ns p (no_ear_in c k) q e = absurd (no_refusal (NoEarInContour c) e)
  after_contours ns p (added u) q e = after_removals ns p u (all_added j ns u p q) (remove_all j.nvp u) refl e

  after_checks : (b : Lent) (c : Checked) → check j (lengths_of b) ≡ c → after_check j c ≡ built m ls log → Balanced j.nvp (job_area j) (count_t j) (count_v j) m log
  unfolding after_check
  after_checks b (refusal r) q e = absurd (no_refusal r e)
  after_checks b passed q e = after_contours (lengths_of b) (checked j (lengths_of b) q) (add_all j) refl e

pub balanced : (j : Job) (b : Lent) (m : Mesh) (ls : List (List ℕ)) (log : List Removal) → outcome j b ≡ built m ls log → Balanced j.nvp (job_area j) (count_t j) (count_v j) m log
unfolding outcome
balanced j b m ls log e = after_checks j m ls log b (check j (lengths_of b)) refl e

pub balanced_bounds : (j : Job) (m : Mesh) (log : List Removal) → Balanced j.nvp (job_area j) (count_t j) (count_v j) m log → Bounded j m
balanced_bounds j m log b = record { polygons = omega (arith, polygons_few (all_imp (λ p k. k.long) b.sound.good), b.spares); vertices = b.vertices; sound = b.sound }

pub bounded : (j : Job) (b : Lent) (m : Mesh) (ls : List (List ℕ)) (log : List Removal) → outcome j b ≡ built m ls log → Bounded j m
bounded j b m ls log e = balanced_bounds j m log (balanced j b m ls log e)
