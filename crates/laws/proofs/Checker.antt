-- The checker accepts exactly the meshes that its sentences speak of: what `rules` states in its file `Checker`. Assumes nothing.
-- Key: `accepts_exactly`; `equal_of`, `of_equal`: what the test of 44 says.
use Prim.Native.Nat.{ℕ, ◌≤◌, ◌<◌}
use Rattle.std.proofs.Common.{arith, ◌∙◌, ap, ⊎_elim}
use Rattle.std.proofs.Math.Path.{◌≡◌, refl, sym}
use Rattle.std.specs.Prelude.{Bool, true, false, eqb, ltb, length, ℤ, pos, negsuc, ◌-ℤ◌, Option, Some, None, Result, Ok, Err, ⊤}
use Rattle.std.proofs.Math.Bool.{cond}
use borrow.Author.Tests.{eqb-true, lt-ltb, le-ltb, eq-eqb}
use Rattle.ints.specs.Ring.{at, nat, ◌⊖◌, is_eq}
use Rattle.ints.specs.Order.{eq_is}
use Rattle.mem.specs.Cases.{lt_or_le}
use Rattle.rules.specs.declared.Fault.{Fault}
use Rattle.rules.specs.declared.Objection.{Objection}
use Rattle.rules.specs.declared.Objection.TheVariants.{Unsound, BadArea}
use Rattle.rules.specs.Plane.{is_zero}
use Rattle.rules.specs.Links.{none}
use Rattle.rules.specs.Areas.{stored_area}
use Rattle.rules.specs.Handed.{polygon_count, mesh_in, corners_at, link_at, first_fault, soundness}
use Rattle.rules.specs.Checker.{Claim, open_link, portal_holds, portals_hold, area_holds, sound_verdict, verdict, GoodPortals, Acceptable, AcceptsExactly}
use Rattle.laws.proofs.Tests.{all_of_lem, all_true, or_any, or_rest, no_fault, fault_none}
use Rattle.laws.proofs.Handed.{sound_exactly}

-- ---- each test, and what it says
zero_is : (z : ℤ) → is_zero z ≡ true → z ≡ pos 0
zero_is (pos n) e = ap pos (eqb-true n 0 e)
zero_is (negsuc n) e = let z : ◌≡◌ {A = ℕ} 0 1 = cc in absurd (omega arith)

pub equal_of : (a b : ℤ) → is_zero (a -ℤ b) ≡ true → a ≡ b
equal_of a b e = is_eq (at a) (at b) (omega (arith, eq_is (at a ⊖ at b) (nat 0) (zero_is (a -ℤ b) e)))

pub of_equal : (a b : ℤ) → a ≡ b → is_zero (a -ℤ b) ≡ true
of_equal a b e = rw (gone a b e) refl
  where
    gone : (a b : ℤ) → a ≡ b → a -ℤ b ≡ pos 0
    gone a b e = is_eq (at a ⊖ at b) (nat 0) (omega (arith, eq_is (at a) (at b) e))

module _ (c : Claim) where
  good_portals : (i : ℕ) → portals_hold c i ≡ true → GoodPortals c i
  unfolding portals_hold portal_holds
  good_portals i e j h l =
      let link = link_at (mesh_in c.mesh).links i j in
      let t = all_true (portal_holds c i) 0 (length (corners_at (mesh_in c.mesh) i)) e j (omega arith) h in
      eqb-true link _ (rw (le-ltb link none l) at t)

  portals_good : (i : ℕ) → GoodPortals c i → portals_hold c i ≡ true
  unfolding portals_hold portal_holds
  portals_good i g = all_of_lem (portal_holds c i) 0 (length (corners_at (mesh_in c.mesh) i)) (λ j a h. one j h)
    where
      link : ℕ → ℕ
      link j = link_at (mesh_in c.mesh).links i j

      gives : ℕ → ℕ
      gives j = open_link (mesh_in c.mesh).vertices c.w c.h c.border (corners_at (mesh_in c.mesh) i) j

      one : (j : ℕ) → j < length (corners_at (mesh_in c.mesh) i) → portal_holds c i j ≡ true
      one j h = ⊎_elim
          (λ (l : link j < none). or_any (ltb (link j) none) (eqb (link j) (gives j)) (lt-ltb (link j) none l))
          (λ (l : none ≤ link j). or_rest (ltb (link j) none) (eqb (link j) (gives j)) (eq-eqb (link j) (gives j) (g j h l)))
          (lt_or_le (link j) none)

-- ---- the verdict

module _ (c : Claim) where
  abbrev portal_fault : Option ℕ
  portal_fault = first_fault (portals_hold c) (polygon_count c.mesh)

  pub sound_passes : soundness c.mesh ≡ (Ok tt) → verdict c ≡ sound_verdict c portal_fault
  unfolding verdict
  sound_passes e = rw (e, verdict) refl

  is_sound : verdict c ≡ (Ok tt) → soundness c.mesh ≡ (Ok tt)
  unfolding verdict
  is_sound e = go (soundness c.mesh) refl
    where
      go : (s : Result ⊤ Fault) → soundness c.mesh ≡ s → soundness c.mesh ≡ (Ok tt)
      go (Ok _) q = q
      go (Err f) q =
          let x : ◌≡◌ {A = Result ⊤ Objection} (Err (Unsound f)) (Ok tt) = rw (q, verdict) at e in let z : ◌≡◌ {A = ℕ} 0 1 = cc in absurd (omega arith)

  no_portal_fault : (f : Option ℕ) → sound_verdict c f ≡ (Ok tt) → f ≡ None
  unfolding sound_verdict
  no_portal_fault (Some i) e = let z : ◌≡◌ {A = ℕ} 0 1 = cc in absurd (omega arith)
  no_portal_fault None e = refl

  area_holds_lem : (t : Bool) → cond {A = Result ⊤ Objection} t (Ok tt) (Err BadArea) ≡ (Ok tt) → t ≡ true
  area_holds_lem true e = refl
  area_holds_lem false e = let z : ◌≡◌ {A = ℕ} 0 1 = cc in absurd (omega arith)

  acceptable : verdict c ≡ (Ok tt) → Acceptable c
  unfolding sound_verdict area_holds
  acceptable e =
      let s = is_sound e in
      let p = sym (sound_passes s) ∙ e in
      let n = no_portal_fault portal_fault p in
      record {
        consistent = (sound_exactly c.mesh).0 s;
        portals = λ i h. good_portals c i (fault_none (portals_hold c) (polygon_count c.mesh) n i h);
        area = equal_of (stored_area (mesh_in c.mesh)) c.total (area_holds_lem (area_holds c) (rw n at p));
      }

  accepted : Acceptable c → verdict c ≡ (Ok tt)
  unfolding sound_verdict area_holds
  accepted a =
      let n = no_fault (portals_hold c) (polygon_count c.mesh) (λ i h. portals_good c i (a.portals i h)) in
      sound_passes ((sound_exactly c.mesh).1 a.consistent)
      ∙ rw n (ap (λ (t : Bool). cond {A = Result ⊤ Objection} t (Ok tt) (Err BadArea)) (of_equal (stored_area (mesh_in c.mesh)) c.total a.area))

pub accepts_exactly : AcceptsExactly
accepts_exactly c = (acceptable c, accepted c)
