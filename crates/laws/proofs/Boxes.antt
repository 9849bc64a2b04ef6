-- Two segments that have a length and whose boxes don't meet neither cross nor touch: what `rules` states in its file `Boxes`. Where they crossed, the four D
-- would be weights under which the ends of the one and the ends of the other balance at the same place; and so would two differences where an end of the
-- one lay on the other. But numbers that all come before others never balance where those do (`Aside`). Assumes nothing.
-- Key: `apart_miss`, `apart_passes`.
use Rattle.std.specs.Prelude.{ℕ, ◌≡◌, refl, Bool, true, false, not, cond, ◌&&◌, ◌||◌, ◌⊎◌, ◌≢◌, eqb, ℤ, pos, negsuc, ◌+ℤ◌, ◌*ℤ◌}
use Rattle.std.proofs.Common.{arith, sym, ◌∙◌, ap, true≢false, inl, inr, ⊎_elim, eqb-true, eq-eqb, ne_eqb}
use Rattle.std.specs.Bool.{beq}
use Rattle.std.proofs.lemmas.Bool.{not-true}
use Rattle.std.proofs.Math.IntN.{+ℤ_comm}
use Rattle.std.specs.Int.Signed.{lt_z}
use Rattle.ints.specs.Ring.{Is, upℤ, dnℤ, nat, ◌⊕◌, ◌⊗◌, is_eq}
use Rattle.ints.specs.Order.{eq_is, ints}
use Rattle.ints.specs.Bools.{and_left, and_right, or_cases}
use Rattle.mem.specs.Cases.{eq_or_ne}
use Rattle.rules.specs.declared.Point.{Point}
use Rattle.rules.specs.declared.Kind.{Kind}
use Rattle.rules.specs.declared.Kind.TheVariants.{Strict, Loose}
use Rattle.rules.specs.Plane.{D, is_left, is_zero, collinear, vequal, within, between, intersect_prop, intersect}
use Rattle.rules.specs.Diagonal.{hits}
use Rattle.rules.specs.Boxes.{before, boxes_apart, are_apart, ApartMiss}
use Rattle.laws.specs.Aside.{InLine}
use Rattle.laws.proofs.Aside.{Aside, aside_is, aside_turned, aside_pick, no_balance, not_aside, not_across}
use Rattle.laws.proofs.Sides.{D-is}

-- ---- tests
never : (t : Bool) → (t ≡ true → ⊥) → t ≡ false
never true f = absurd (f refl)
never false f = refl

-- ---- two segments beside each other, along one axis
data Axis : Type 0 where
  in_x : Axis
  in_z : Axis

along : Axis → Point → ℕ
along in_x p = p.x
along in_z p = p.z

record Beside (a b c d : Point) : Type 0 where
  axis : Axis
  aside : Aside (along axis a) (along axis b) (along axis c) (along axis d)

beside_is : (a b c d : Point) → boxes_apart a b c d ≡ true → Beside a b c d
unfolding boxes_apart along
beside_is a b c d e =
    let x-test = before a.x b.x c.x d.x || before c.x d.x a.x b.x in
    let z-test = before a.z b.z c.z d.z || before c.z d.z a.z b.z in ⊎_elim
    (λ (f : x-test ≡ true). record { axis = in_x; aside = aside_is a.x b.x c.x d.x f })
    (λ (f : z-test ≡ true). record { axis = in_z; aside = aside_is a.z b.z c.z d.z f })
    (or_cases x-test z-test e)

module _ {a b c d : Point} (h : Beside a b c d) where
  beside_turned : Beside c d a b
  beside_turned = record { axis = h.axis; aside = aside_turned _ _ _ _ h.aside }

  beside_first : Beside a b c c
  beside_first = record { axis = h.axis; aside = aside_pick true false true true _ _ _ _ h.aside }

  beside_second : Beside a b d d
  beside_second = record { axis = h.axis; aside = aside_pick true false false false _ _ _ _ h.aside }

-- ---- crossing: the four D as weights, g and k of a b with c and d, u and v of c d with a and b
negative : (z : ℤ) → lt_z z (pos 0) ≡ true → Is z 0 (dnℤ z)
negative (pos n) e = absurd (omega ints)
negative (negsuc n) e = record { is = refl }

positive : (z : ℤ) → lt_z z (pos 0) ≡ false → Is z (upℤ z) 0
positive (pos n) e = record { is = omega arith }
positive (negsuc n) e = absurd (omega ints)

-- unlike signs
unlike : (s t : Bool) → not (beq s t) ≡ true → ((s ≡ true) × (t ≡ false)) ⊎ ((s ≡ false) × (t ≡ true))
unlike true true e = absurd (true≢false (sym e))
unlike true false e = inl (refl, refl)
unlike false true e = inr (refl, refl)
unlike false false e = absurd (true≢false (sym e))

Falls : ℤ → ℤ → Type 0
Falls m n = (lt_z m (pos 0) ≡ true) × (lt_z n (pos 0) ≡ false)

Rises : ℤ → ℤ → Type 0
Rises m n = (lt_z m (pos 0) ≡ false) × (lt_z n (pos 0) ≡ true)

-- g below 0 and k not, v below 0 and u not: the ends balance
fall_rise : (g k u v : ℤ) (a b c d : ℕ) → Aside a b c d → v +ℤ k ≡ u +ℤ g → v *ℤ pos a +ℤ k *ℤ pos c ≡ u *ℤ pos b +ℤ g *ℤ pos d
    → Falls g k → Rises u v → ⊥
unfolding Falls Rises
fall_rise g k u v a b c d h sums weighed x y =
    let gs = negative g x.0 in let ks = positive k x.1 in let us = positive u y.0 in let vs = negative v y.1 in
    let s = eq_is (vs ⊕ ks) (us ⊕ gs) sums in
    let w = eq_is (vs ⊗ nat a ⊕ ks ⊗ nat c) (us ⊗ nat b ⊕ gs ⊗ nat d) weighed in
    no_balance (dnℤ v) (upℤ u) (upℤ k) (dnℤ g) a b c d (omega arith) (omega (ints, x.0, y.1)) h (omega arith)

-- g and u below 0 and k and v not: of the equal sums one would be below 0 and the other not
fall_fall : (g k u v : ℤ) → v +ℤ k ≡ u +ℤ g → Falls g k → Falls u v → ⊥
unfolding Falls
fall_fall g k u v sums x y =
    let s = eq_is (positive v y.1 ⊕ positive k x.1) (negative u y.0 ⊕ negative g x.0) sums in
    omega (ints, x.0, y.0)

-- the two other cases are these with the segments exchanged, and with the ends of both
not_crossed : (g k u v : ℤ) (a b c d : ℕ) → Aside a b c d → v +ℤ k ≡ u +ℤ g → v *ℤ pos a +ℤ k *ℤ pos c ≡ u *ℤ pos b +ℤ g *ℤ pos d
    → not (beq (lt_z g (pos 0)) (lt_z k (pos 0))) ≡ true → not (beq (lt_z u (pos 0)) (lt_z v (pos 0))) ≡ true → ⊥
unfolding Falls Rises
not_crossed g k u v a b c d h sums weighed e f = ⊎_elim
    (λ (x : Falls g k). ⊎_elim
    (λ (y : Falls u v). fall_fall g k u v sums x y)
    (λ (y : Rises u v). fall_rise g k u v a b c d h sums weighed x y)
    uv)
    (λ (x : Rises g k). ⊎_elim
    (λ (y : Falls u v). fall_rise u v g k c d a b (aside_turned a b c d h) (+ℤ_comm k v ∙ sums ∙ +ℤ_comm u g)
    (+ℤ_comm (k *ℤ pos c) (v *ℤ pos a) ∙ weighed ∙ +ℤ_comm (u *ℤ pos b) (g *ℤ pos d)) y x)
    (λ (y : Rises u v). fall_fall k g v u (sym sums) (x.1, x.0) (y.1, y.0))
    uv)
    (unlike (lt_z g (pos 0)) (lt_z k (pos 0)) e)
  where
    uv : Falls u v ⊎ Rises u v
    uv = unlike (lt_z u (pos 0)) (lt_z v (pos 0)) f

-- the two balances, of which the second is cubic
D-sums : (a b c d : Point) → D c d b +ℤ D a b d ≡ D c d a +ℤ D a b c
D-sums a b c d = is_eq (D-is c d b ⊕ D-is a b d) (D-is c d a ⊕ D-is a b c) (omega arith)

D-weighs : (k : Axis) (a b c d : Point)
    → D c d b *ℤ pos (along k a) +ℤ D a b d *ℤ pos (along k c) ≡ D c d a *ℤ pos (along k b) +ℤ D a b c *ℤ pos (along k d)
unfolding along
D-weighs in_x a b c d = is_eq (D-is c d b ⊗ nat a.x ⊕ D-is a b d ⊗ nat c.x) (D-is c d a ⊗ nat b.x ⊕ D-is a b c ⊗ nat d.x) (omega arith)
D-weighs in_z a b c d = is_eq (D-is c d b ⊗ nat a.z ⊕ D-is a b d ⊗ nat c.z) (D-is c d a ⊗ nat b.z ⊕ D-is a b c ⊗ nat d.z) (omega arith)

no_crossing : (a b c d : Point) → Beside a b c d → intersect_prop a b c d ≡ false
unfolding intersect_prop is_left
no_crossing a b c d h =
    let proper = not (collinear a b c || collinear a b d || collinear c d a || collinear c d b) in
    let cd-unlike = not (beq (is_left a b c) (is_left a b d)) in
    let ab-unlike = not (beq (is_left c d a) (is_left c d b)) in
    never (intersect_prop a b c d) (λ (e : intersect_prop a b c d ≡ true).
    let both = and_right proper (cd-unlike && ab-unlike) e in
    not_crossed (D a b c) (D a b d) (D c d a) (D c d b) _ _ _ _ h.aside (D-sums a b c d) (D-weighs h.axis a b c d)
    (and_left cd-unlike ab-unlike both) (and_right cd-unlike ab-unlike both))

-- ---- touching: c on the line of a b
zero_is : (z : ℤ) → is_zero z ≡ true → z ≡ pos 0
zero_is (pos n) e = ap pos (eqb-true n 0 e)
zero_is (negsuc n) e = absurd (true≢false (sym e))

in_line_lem : (a b c : Point) → collinear a b c ≡ true → InLine a.x a.z b.x b.z c.x c.z
unfolding collinear InLine
in_line_lem a b c e = let f = eq_is (D-is a b c) (nat 0) (zero_is (D a b c) e) in omega arith

-- what `between` looks at is an axis along which a and b differ
not_met : (x s y t w r : ℕ) → (eqb x y && eqb s t) ≡ false → InLine x s y t w r → cond (eqb x y) (within s t r) (within x y w) ≡ true
    → Aside x y w w ⊎ Aside s t r r → ⊥
unfolding InLine
not_met x s y t w r n e f h = ⊎_elim
    (λ (p : x ≡ y).
    let differ : s ≢ t = λ (q : s ≡ t). true≢false (rw (eq-eqb x y p, eq-eqb s t q) at n) in
    let g = rw (eq-eqb x y p) at f in
    ⊎_elim (not_across s x t y r w differ (omega arith) g) (not_aside s t r g) h)
    (λ (p : x ≢ y). let g = rw (ne_eqb x y p) at f in ⊎_elim (not_aside x y w g) (not_across x s y t w r p e g) h)
    (eq_or_ne x y)

no_touching : (a b c : Point) → vequal a b ≡ false → Beside a b c c → between a b c ≡ false
unfolding between vequal along
no_touching a b c n h =
    let lies = cond (eqb a.x b.x) (within a.z b.z c.z) (within a.x b.x c.x) in
    never (between a b c) (λ (e : between a b c ≡ true).
    not_met a.x a.z b.x b.z c.x c.z n
    (in_line_lem a b c (and_left (collinear a b c) lies e))
    (and_right (collinear a b c) lies e)
    (either h.axis h.aside))
  where
    either : (k : Axis) → Aside (along k a) (along k b) (along k c) (along k c) → Aside a.x b.x c.x c.x ⊎ Aside a.z b.z c.z c.z
    either in_x h = inl h
    either in_z h = inr h

-- ---- both
pub apart_miss : ApartMiss
unfolding are_apart intersect
apart_miss a b c d e =
    let long = and_left (not (vequal a b) && not (vequal c d)) (boxes_apart a b c d) e in
    let ab-long = not-true (vequal a b) (and_left (not (vequal a b)) (not (vequal c d)) long) in
    let cd-long = not-true (vequal c d) (and_right (not (vequal a b)) (not (vequal c d)) long) in
    let h = beside_is a b c d (and_right (not (vequal a b) && not (vequal c d)) (boxes_apart a b c d) e) in
    let uncrossed = no_crossing a b c d h in (
      uncrossed,
      rw (
        uncrossed,
        no_touching a b c ab-long (beside_first h),
        no_touching a b d ab-long (beside_second h),
        no_touching c d a cd-long (beside_first (beside_turned h)),
        no_touching c d b cd-long (beside_second (beside_turned h)),
      ),
    )

-- so neither diagonal is stopped by such a side
pub apart_passes : (kind : Kind) (a b c d : Point) → are_apart a b c d ≡ true → hits kind a b c d ≡ false
unfolding hits
apart_passes Strict a b c d e = (apart_miss a b c d e).1
apart_passes Loose a b c d e = (apart_miss a b c d e).0
