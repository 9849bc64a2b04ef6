-- What holds of the empty mesh, and is kept by every contour and every removal, holds of every mesh that is built; and its links are those of R6 and R7.
-- Assumes nothing.
-- Key: `reached`, with which a property goes through the whole build; `built_links`, `built_passed`.
use Prim.Native.Nat.{ℕ, zero, suc, ◌+◌}
use native.Mathlib.Omega.{arith}
use Rattle.std.proofs.Math.Path.{◌≡◌, refl, sym, ap, subst}
use Rattle.std.proofs.Common.{◌∙◌}
use Rattle.std.specs.Prelude.{Bool, length}
use Rattle.std.proofs.Math.Bool.{true, false}
use mathlib.Core.List.{List, [], ◌∷◌, ◌++◌, map}
use Rattle.std.proofs.Math.Dec.{ltb}
use Rattle.std.proofs.Math.ListN.{get_or}
use Rattle.rules.specs.Plane.{on_plane}
use Rattle.rules.specs.Ears.{Ears, done, stuck, triangulate}
use Rattle.rules.specs.Mesh.{Mesh, no_mesh}
use Rattle.rules.specs.Removal.{Removal, Removed, gone, no_ears, remove_vertex, Removals, removed, stuck_at, goes, remove_from, remove_all}
use Rattle.rules.specs.Links.{links_of}
use Rattle.rules.specs.Portals.{portals}
use Rattle.rules.specs.Job.{Job, contour_vertices}
use Rattle.rules.specs.Checks.{Lent, Checked, passed, refusal, check, lengths_of}
use Rattle.rules.specs.Build.{Contours, added, no_ear_in, add_from, add_all, built, linked, cleared, after_check, outcome}
use Rattle.rules.specs.declared.Refusal.TheVariants.{NoEarInContour, NoEarInHole}
use Rattle.laws.specs.Checks.{Passed}
use Rattle.laws.proofs.Checks.{checked}
use Rattle.laws.proofs.Contours.{add_skip, add_stuck, add_done}
use Rattle.laws.proofs.Build.{from_false, from_gone, from_stuck, no_refusal, not_stuck}
use Rattle.laws.specs.Reached.{with_contour}

module _ (j : Job) (P : Mesh → Type 0) (start : P no_mesh)
    (contour : (c first : ℕ) (ts : List (List ℕ)) (m : Mesh) → P m → P (with_contour j c first ts m))
    (removal : (i : ℕ) (m t : Mesh) (r : Removal) → remove_vertex j.nvp i m ≡ gone t r → P m → P t) where
  contours_keep : (f c first : ℕ) (m t : Mesh) → P m → add_from f j c first m ≡ added t → P t
  unfolding add_from
  contours_keep zero c first m t p e = let q : m ≡ t = cc in subst P q p
  contours_keep (suc f) c first m t p e =
      let n = get_or j.lengths c 0 in
      let vs = contour_vertices j.numbers first n in
      (elim (ltb n 3) as (λ (b : Bool). ltb n 3 ≡ b → P t) [
        | true ↦ λ k. contours_keep f (c + 1) (first + n) m t p (sym (add_skip f j c first m k) ∙ e)
        | false ↦ λ k.
            (elim (triangulate (map on_plane vs)) as (λ (r : Ears). triangulate (map on_plane vs) ≡ r → P t) [
              | stuck i ↦ λ r. absurd (no c i t (sym (add_stuck f j c first m i k r) ∙ e))
              | done ts ↦ λ r. contours_keep f (c + 1) (first + n) (with_contour j c first ts m) t (contour c first ts m p) (sym (add_done f j c first m ts k r) ∙ e)
            ]) refl
      ]) refl
    where
      no : (c i : ℕ) (t : Mesh) → no_ear_in c i ≡ added t → ⊥
      no c i t e = let z : ◌≡◌ {A = ℕ} 0 1 = cc in omega arith

  removals_keep : (f i : ℕ) (m : Mesh) (log : List Removal) (t : Mesh) (log' : List Removal) → P m → remove_from f j.nvp i m log ≡ removed t log' → P t
  unfolding remove_from
  removals_keep zero i m log t log' p e = let q : m ≡ t = cc in subst P q p
  removals_keep (suc f) i m log t log' p e =
      (elim (goes i m) as (λ (b : Bool). goes i m ≡ b → P t) [
        | false ↦ λ k. removals_keep f (i + 1) m log t log' p (sym (from_false f j.nvp i m log k) ∙ e)
        | true ↦ λ k.
            (elim (remove_vertex j.nvp i m) as (λ (r : Removed). remove_vertex j.nvp i m ≡ r → P t) [
              | gone u r ↦ λ q. removals_keep f i u (log ++ (r ∷ [])) t log' (removal i m u r q p) (sym (from_gone f j.nvp i m log u r k q) ∙ e)
              | no_ears ↦ λ q. absurd (not_stuck i t log' (sym (from_stuck f j.nvp i m log k q) ∙ e))
            ]) refl
      ]) refl

  module _ (m : Mesh) (ls : List (List ℕ)) (log : List Removal) where
    after_removals : (u : Mesh) → P u → (r : Removals) → remove_all j.nvp u ≡ r → linked j r ≡ built m ls log → P m
    unfolding linked remove_all
    after_removals u p (stuck_at i) q e = absurd (no_refusal j m ls log (NoEarInHole i) e)
    after_removals u p (removed v l) q e = let a : v ≡ m = cc in subst P a (removals_keep (length u.vertices) 0 u [] v l p q)

    after_contours : (c : Contours) → add_all j ≡ c → cleared j c ≡ built m ls log → P m
    unfolding cleared add_all
    after_contours (no_ear_in c k) q e = absurd (no_refusal j m ls log (NoEarInContour c) e)
    after_contours (added u) q e = after_removals u (contours_keep (length j.lengths) 0 0 no_mesh u start q) (remove_all j.nvp u) refl e

    after_checks : (c : Checked) → after_check j c ≡ built m ls log → P m
    unfolding after_check
    after_checks (refusal r) e = absurd (no_refusal j m ls log r e)
    after_checks passed e = after_contours (add_all j) refl e

    pub reached : (b : Lent) → outcome j b ≡ built m ls log → P m
    unfolding outcome
    reached b e = after_checks (check j (lengths_of b)) e

-- the links of a mesh that is built
module _ (j : Job) (m : Mesh) (ls : List (List ℕ)) (log : List Removal) where
  abbrev pub links_in : List (List ℕ)
  links_in = portals m.vertices j.w j.h j.border m.polygons (links_of m.polygons)

  linked_links : (r : Removals) → linked j r ≡ built m ls log → ls ≡ links_in
  unfolding linked
  linked_links (stuck_at i) e = absurd (no_refusal j m ls log (NoEarInHole i) e)
  linked_links (removed v l) e =
      let a : v ≡ m = cc in
      let b : portals v.vertices j.w j.h j.border v.polygons (links_of v.polygons) ≡ ls = cc in
      sym b ∙ ap (λ (u : Mesh). portals u.vertices j.w j.h j.border u.polygons (links_of u.polygons)) a

  cleared_links : (c : Contours) → cleared j c ≡ built m ls log → ls ≡ links_in
  unfolding cleared
  cleared_links (no_ear_in c k) e = absurd (no_refusal j m ls log (NoEarInContour c) e)
  cleared_links (added u) e = linked_links (remove_all j.nvp u) e

  checked_links : (c : Checked) → after_check j c ≡ built m ls log → ls ≡ links_in
  unfolding after_check
  checked_links (refusal r) e = absurd (no_refusal j m ls log r e)
  checked_links passed e = cleared_links (add_all j) e

  pub built_links : (b : Lent) → outcome j b ≡ built m ls log → ls ≡ links_in
  unfolding outcome
  built_links b e = checked_links (check j (lengths_of b)) e

  -- and the checks were passed
  pub built_passed : (b : Lent) → outcome j b ≡ built m ls log → Passed j (lengths_of b)
  unfolding outcome after_check
  built_passed b e = go (check j (lengths_of b)) refl e
    where
      go : (c : Checked) → check j (lengths_of b) ≡ c → after_check j c ≡ built m ls log → Passed j (lengths_of b)
      go (refusal r) q e = absurd (no_refusal j m ls log r e)
      go passed q e = checked j (lengths_of b) q
