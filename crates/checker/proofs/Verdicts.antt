-- The order of the refusals: what each search finds is what the rules' order asks for, and the buffers that a search doesn't see don't matter to it.
-- Assumes nothing.
use Rattle.std.specs.Prelude.{Option, Some, None, Result, Ok, Err, ⊤, IsErrAnd, MatchResult}
use Rattle.std.proofs.lemmas.Result.{err_from_is_err_and}
use mathlib.Core.Path.{◌≡◌, refl, sym, ◌∙◌, ap, subst}
use mathlib.Core.Bool.{Bool, true, false, not, cond}
use mathlib.Core.Logic.{◌≢◌}
use mathlib.Core.List.{List}
use Prim.Native.Nat.{ℕ, ◌*◌, ◌/◌, ◌≤◌, ◌<◌}
use native.Mathlib.Omega.{arith}
use lib.IntN.{ℤ, ◌-ℤ◌}
use lib.ListN.{length, get_or}
use mir.Syntax.{w64}
use mir.Val.{SFits, to_z, of_z}
use Rattle.ints.specs.Machine.{reads_of}
use Rattle.mem.specs.Loops.{over_cong}
use Rattle.rules.specs.Lists.{when, or_else}
use Rattle.rules.specs.Plane.{is_zero}
use Rattle.rules.specs.Checks.{vertex_stride}
use Rattle.rules.specs.Exits.{up_to_none, stored_polygon, stored_links, decoded}
use Rattle.rules.specs.Areas.{stored_area}
use Rattle.rules.specs.declared.Fault.{Fault}
use Rattle.rules.specs.declared.Fault.TheVariants.{BadLinks}
use Rattle.rules.specs.declared.Objection.{Objection}
use Rattle.rules.specs.declared.Objection.TheVariants.{Unsound, BadPortals, BadArea}
use Rattle.rules.specs.Handed.{vertex_count, polygon_count, buffers_of, mesh_in, link_word, corners_at, first_fault, corners_hold}
use Rattle.rules.specs.Handed.{link_holds, links_hold, or_fault, soundness, GoodBuffers, Consistent}
use Rattle.rules.specs.Checker.{Claim, portal_holds, portals_hold, area_holds, sound_verdict, verdict}
use Rattle.laws.proofs.Checker.{equal_of, of_equal}
use Rattle.laws.proofs.HandedWords.{corners_read, corner_read, vertex_read}
use Rattle.stored.specs.Stored.{stored_in, MeshReady}
use Rattle.stored.specs.Areas.{area_stored}
use Rattle.checker.specs.Asked.{handed_in, links_in, claim_in, unclaimed_in}
use Rattle.checker.specs.Steps.{row_at, row_holds}
use Rattle.checker.proofs.Rows.{first_row}

-- ---- the first fault, or the rest

module _ (fault : ℕ → Fault) (rest : Result ⊤ Fault) {f g : Option ℕ} (e : f ≡ g) where
  pub fault_found : {i : ℕ} → f ≡ Some i → Err (fault i) ≡ or_fault fault g rest
  unfolding or_fault
  fault_found q = rw (sym e ∙ q) refl

  pub none_found : f ≡ None → rest ≡ or_fault fault g rest
  unfolding or_fault
  none_found q = rw (sym e ∙ q) refl

-- ---- 41 and 42, of a mesh that has passed 40

module _ (nvp : ℕ) (vs ps ls : List ℕ) where
  links_alone : (n : ℕ) → first_fault (links_hold (links_in nvp ps ls)) n ≡ first_fault (links_hold (handed_in nvp vs ps ls)) n
  unfolding first_fault links_hold link_holds link_word mesh_in decoded stored_polygon stored_links polygon_count
  links_alone n =
      over_cong None or_else (λ i. when (not (links_hold (links_in nvp ps ls) i)) i) (λ i. when (not (links_hold (handed_in nvp vs ps ls) i)) i) 0 n
      (λ i a h. refl)

  pub links_then : {r : Result ⊤ Fault} → r ≡ or_fault BadLinks (first_fault (links_hold (links_in nvp ps ls)) (length ps / nvp)) (Ok tt)
      → r ≡ or_fault BadLinks (first_fault (links_hold (handed_in nvp vs ps ls)) (polygon_count (handed_in nvp vs ps ls))) (Ok tt)
  unfolding polygon_count
  links_then e = e ∙ ap (λ (f : Option ℕ). or_fault BadLinks f (Ok tt)) (links_alone (length ps / nvp))

  module _ (g : GoodBuffers (handed_in nvp vs ps ls)) where
    pub rows_fit : length ps / nvp * nvp ≤ length ps
    unfolding polygon_count
    rows_fit = omega (arith, g.polygons)

    pub corners_first : {f : Option ℕ} → f ≡ first_fault (λ i. row_holds (length vs / vertex_stride) (row_at nvp ps i)) (length ps / nvp)
        → f ≡ first_fault (corners_hold (handed_in nvp vs ps ls)) (polygon_count (handed_in nvp vs ps ls))
    unfolding vertex_count polygon_count
    corners_first e = e ∙ first_row (handed_in nvp vs ps ls) rows_fit

-- ---- 43 and 44, of a sound mesh

-- the verdict if the area is right, and if it is not
abbrev settled : Bool → Result ⊤ Objection
settled t = cond t (Ok tt) (Err BadArea)

-- the verdict on it
abbrev pub verdict_on : Claim → Result ⊤ Objection
verdict_on c = sound_verdict c (first_fault (portals_hold c) (polygon_count c.mesh))

module _ (nvp w h border : ℕ) (total : ℤ) (vs ps ls : List ℕ) where
  pub portals_first : {f : Option ℕ} → f ≡ first_fault (portals_hold (unclaimed_in nvp w h border vs ps ls)) (length ps / nvp)
      → f ≡ first_fault (portals_hold (claim_in nvp w h border total vs ps ls)) (polygon_count (handed_in nvp vs ps ls))
  unfolding first_fault portals_hold portal_holds polygon_count
  portals_first e =
      e ∙ over_cong None or_else (λ i. when (not (portals_hold (unclaimed_in nvp w h border vs ps ls) i)) i)
      (λ i. when (not (portals_hold (claim_in nvp w h border total vs ps ls) i)) i) 0 (length ps / nvp) (λ i a l. refl)

  -- the area that is measured
  abbrev measured : ℤ
  measured = stored_area (stored_in nvp (length ps / nvp) (length vs / vertex_stride) vs ps)

  -- a claim that is handed on is the same number
  module _ (b : SFits w64 total) {r : Result ⊤ Objection} where
    pub area_last : r ≡ cond (is_zero (measured -ℤ to_z w64 (of_z w64 total))) (Ok tt) (Err BadArea)
        → r ≡ cond (area_holds (claim_in nvp w h border total vs ps ls)) (Ok tt) (Err BadArea)
    unfolding area_holds mesh_in vertex_count polygon_count
    area_last e =
        e ∙ ap (λ (z : ℤ). settled (is_zero (measured -ℤ z))) (reads_of b).reads
        ∙ ap (λ (a : ℤ). settled (is_zero (a -ℤ total)))
        (sym (area_stored nvp (length ps / nvp) (length vs / vertex_stride) (buffers_of (handed_in nvp vs ps ls))))

    pub sound_last : r ≡ verdict_on (claim_in nvp w h border (to_z w64 (of_z w64 total)) vs ps ls) → r ≡ verdict_on (claim_in nvp w h border total vs ps ls)
    sound_last e = e ∙ ap (λ (z : ℤ). verdict_on (claim_in nvp w h border z vs ps ls)) (reads_of b).reads

-- what was measured is the claim, or it is not: z is the area, of which the code has the bits
module _ {z d : ℤ} (claim : ℤ) (q : z ≡ d) where
  pub area_meets : SFits w64 z → SFits w64 claim → of_z w64 z ≡ of_z w64 claim → Ok tt ≡ settled (is_zero (d -ℤ claim))
  area_meets a b e = rw (of_equal d claim (sym q ∙ sym (reads_of a).reads ∙ ap (to_z w64) e ∙ (reads_of b).reads)) refl

  pub area_differs : of_z w64 z ≢ of_z w64 claim → Err BadArea ≡ settled (is_zero (d -ℤ claim))
  area_differs n = go (is_zero (d -ℤ claim)) refl
    where
      go : (t : Bool) → is_zero (d -ℤ claim) ≡ t → Err BadArea ≡ settled t
      go true e = absurd (n (ap (of_z w64) (q ∙ equal_of d claim e)))
      go false e = refl

pub portals_found : (c : Claim) {f g : Option ℕ} {i : ℕ} → f ≡ g → f ≡ Some i → Err (BadPortals i) ≡ sound_verdict c g
unfolding sound_verdict
portals_found c e q = rw (sym e ∙ q) refl

pub portals_none : (c : Claim) {f g : Option ℕ} {r : Result ⊤ Objection} → f ≡ g → f ≡ None → r ≡ cond (area_holds c) (Ok tt) (Err BadArea) → r ≡ sound_verdict c g
unfolding sound_verdict
portals_none c e q a = rw (sym e ∙ q) a

pub unsound : (c : Claim) (f : Fault) → soundness c.mesh ≡ Err f → Err (Unsound f) ≡ verdict c
unfolding verdict
unsound c f e = rw (e, verdict) refl

-- what a `?` passes on, as another error
pub passed_on : {A E : Type 0} {r : Result A E} {x : E} → IsErrAnd r (λ e. e ≡ x) → r ≡ Err x
passed_on {r} i = let x = err_from_is_err_and r i in x.1 ∙ ap Err x.2

-- what `map_err` makes of an answer: it passes as it did, and its refusal bears another name
module _ {D E : Type 0} (f : E → D) where
  abbrev Mapped : Result ⊤ E → Result ⊤ D → Type 0
  Mapped r q = MatchResult r (λ x. q ≡ Ok x) (λ e. IsErrAnd q (λ d. d ≡ f e))

  pub mapped_ok : (r : Result ⊤ E) {q : Result ⊤ D} → Mapped r q → q ≡ Ok tt → r ≡ Ok tt
  mapped_ok (Ok x) m k = refl
  mapped_ok (Err e) m k = absurd (subst (λ (s : Result ⊤ D). IsErrAnd s (λ d. d ≡ f e)) k m)

  pub mapped_err : (r : Result ⊤ E) {q : Result ⊤ D} {d : D} → Mapped r q → q ≡ Err d → (e : E) × (r ≡ Err e) × (d ≡ f e)
  mapped_err (Ok x) m k = let z : ◌≡◌ {A = ℕ} 0 1 = cc in absurd (omega arith)
  mapped_err (Err e) m k = (e, refl, subst (λ (s : Result ⊤ D). IsErrAnd s (λ d. d ≡ f e)) k m)

-- a sound mesh may be measured
pub mesh_ready : (nvp : ℕ) (vs ps ls : List ℕ) → Consistent (handed_in nvp vs ps ls) → MeshReady nvp (length ps / nvp) (length vs / vertex_stride) vs ps
unfolding vertex_count polygon_count
mesh_ready nvp vs ps ls g =
    let m = handed_in nvp vs ps ls in
    let b = g.buffers in
    record {
      most = b.nvp_high;
      few = b.few_polygons;
      polygons = omega (arith, b.polygons);
      vertices = omega (arith, b.vertices);
      corners = λ i c h l.
          let k : c < length (corners_at (mesh_in m) i) = rw (corners_read m i h) l in
          let w : get_or (up_to_none (row_at nvp ps i)) c 0 < length vs / vertex_stride =
          rw (← corners_read m i h, corner_read m i c h k) ((g.corners i h).inside c k) in w;
      x = λ v h. rw (vertex_read m v h) at (b.grid v h).x_small;
      z = λ v h. rw (vertex_read m v h) at (b.grid v h).z_small;
    }
