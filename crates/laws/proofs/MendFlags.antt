-- Request 12: some kept point has a 1 exactly if some point had. Assumes nothing.
-- Key: `mend_keeps_flags`, the statement of `rules`.
use Rattle.std.specs.Prelude.{ℕ, zero, suc, ◌≤◌, ◌<◌, ◌≡◌, refl, Bool, true, false, ◌||◌, List, [], ◌∷◌, eqb, length, get_or, set}
use Rattle.std.proofs.Common.{arith, sym, ◌∙◌, ap, length-set, get_or-set_same, get_or-set_other}
use Rattle.mem.specs.Cases.{by_test}
use Rattle.rules.specs.Lists.{next, without}
use Rattle.rules.specs.Mend.{Traced, no_traced, Mending, takes_flag, lose_after, place_then, lose_two, has_one, MendKeepsFlags}
use Rattle.laws.proofs.Lists.{without_cons, length_without}
use Rattle.laws.proofs.Ring.{next_below, next_other}
use Rattle.laws.specs.MendLoss.{lost_one}
use Rattle.laws.proofs.MendLoss.{then_below, then_here}
use Rattle.laws.specs.Mend.{left_in, Step, one_lost, two_lost}
use Rattle.laws.proofs.Mend.{length_lost, mend_ind}

is_one : Traced → Bool
is_one p = eqb p.flag 1

-- ---- lists with a 1: where there is one; without a point that has none; and with one point in the place of another
one_at : (l : List Traced) (k : ℕ) → k < length l → is_one (get_or l k no_traced) ≡ true → has_one l ≡ true
unfolding has_one is_one
one_at [] k h e = absurd (omega arith)
one_at (p ∷ l) zero h e = rw e refl
one_at (p ∷ l) (suc k) h e = by_test (is_one p) (λ q. rw q refl) (λ q. rw q (one_at l k (omega arith) e))

one_without : (l : List Traced) (k : ℕ) → k < length l → is_one (get_or l k no_traced) ≡ false → has_one (without l k) ≡ has_one l
unfolding has_one is_one without
one_without [] k h e = absurd (omega arith)
one_without (p ∷ l) zero h e = rw e refl
one_without (p ∷ l) (suc k) h e = ap has_one (without_cons p l k) ∙ ap (λ (b : Bool). eqb p.flag 1 || b) (one_without l k (omega arith) e)

one_set : (l : List Traced) (i : ℕ) (y : Traced) → is_one y ≡ is_one (get_or l i no_traced) → has_one (set l i y) ≡ has_one l
unfolding has_one is_one
one_set [] i y e = refl
one_set (p ∷ l) zero y e = ap (λ (b : Bool). b || has_one l) e
one_set (p ∷ l) (suc i) y e = ap (λ (b : Bool). eqb p.flag 1 || b) (one_set l i y e)

-- ---- the kept point takes the lost one's 1
takes_one : (p q : Traced) → is_one q ≡ true → is_one (takes_flag p q) ≡ true
unfolding is_one takes_flag
takes_one p q e = rw e refl

takes_none : (p q : Traced) → is_one q ≡ false → is_one (takes_flag p q) ≡ is_one p
unfolding is_one takes_flag
takes_none p q e = rw e refl

lose_flags : (i : ℕ) (m : Mending) → 2 ≤ left_in m → i < left_in m → has_one (lose_after i m).points ≡ has_one m.points
unfolding lose_after lost_one
lose_flags i m n h =
    let ps = m.points in
    let k = next i (length ps) in
    let p = get_or ps i no_traced in
    let q = get_or ps k no_traced in
    let y = takes_flag p q in
    let l = set ps i y in
    let e : length l ≡ length ps = length-set ps i y in
    let low : k < length ps = next_below i (length ps) (omega arith) in
    let at = place_then i (length ps) in
    by_test (is_one q)
    (λ t.
    let here : get_or (without l k) at no_traced ≡ y = (rw e at (then_here l i no_traced (omega arith) (omega arith))) ∙ get_or-set_same ps i y no_traced h in
    let inside : at < length (without l k) = omega (arith, length_without l k (omega arith), then_below i (length ps) n h) in
    one_at (without l k) at inside (ap is_one here ∙ takes_one p q t) ∙ sym (one_at ps k low t))
    (λ t. one_without l k (omega arith) (ap is_one (get_or-set_other ps i k y no_traced (next_other i (length ps) n)) ∙ t) ∙ one_set ps i y (takes_none p q t))

flags_step : (m n : Mending) → Step m n → has_one n.points ≡ has_one m.points
unfolding lose_two
flags_step m _ (one_lost i three h e) = lose_flags i m (omega arith) h
flags_step m _ (two_lost i three h d e) = let a = length_lost i m (omega arith) in let b = then_below i (left_in m) (omega arith) h in
    lose_flags (place_then i (left_in m)) (lose_after i m) (omega arith) (omega arith) ∙ lose_flags i m (omega arith) h

pub mend_keeps_flags : MendKeepsFlags
mend_keeps_flags ps = mend_ind (λ (m : Mending). has_one m.points ≡ has_one ps) (λ m n s p. flags_step m n s ∙ p) ps refl
