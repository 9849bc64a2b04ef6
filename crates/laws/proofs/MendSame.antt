-- Request 12: the quick way gives what the sentences give. Assumes nothing.
-- Key: `quick_same`: quick_mended ps ≡ mended ps; `stack_same`, `ends_same`: of the walk and of the ends.
use Rattle.std.specs.Prelude.{ℕ, zero, suc, ◌+◌, ◌-◌, ◌≤◌, ◌<◌, ◌≡◌, refl, true, false, ◌&&◌, List, [], ◌∷◌, ltb, length, Some, None}
use Rattle.std.proofs.Common.{arith, sym, ◌∙◌, ap₂, subst, inl, inr, ltb-true, ltb-false, le-ltb}
use Rattle.ints.specs.Bools.{and_left, and_right}
use Rattle.mem.specs.Cases.{by_test}
use Rattle.rules.specs.Mend.{Traced, is_doubled, is_at_fault, lowest_fault, Mending, lose_after, lose_two, mend_at, mend_loop, mended}
use Rattle.laws.proofs.Lowest.{first_none}
use Rattle.laws.specs.MendLoss.{lost_one, lost_two}
use Rattle.laws.specs.Mend.{left_in, places_in}
use Rattle.laws.proofs.Mend.{length_places, places_lost, length_lost, places_two, length_two, mend_one, mend_two, loop_at, settled_stays}
use Rattle.laws.specs.MendQuick.{meet, ends_loop, stack_loop, quick_mended}
use Rattle.laws.proofs.MendQuick.{ends_few, ends_near, ends_last, ends_last_two, ends_none}
use Rattle.laws.proofs.MendQuick.{stack_few, stack_one, stack_two, stack_joins}
use Rattle.laws.specs.MendClean.{Clean}
use Rattle.laws.proofs.MendClean.{clean_first, one_is, one_lowest, two_not, two_lowest, joins, clean_one, clean_two}
use Rattle.laws.proofs.MendClean.{near_not, near_lowest, clean_near, last_one, last_lowest, clean_last, last_lowest_two, clean_last_two, ends_clear}

-- ---- a turn of the sentences' loop
mend_turn : (f i : ℕ) (m k : Mending) → 3 ≤ left_in m → left_in m ≤ f → lowest_fault (places_in m) ≡ Some i → mend_at i m ≡ k → mend_loop f m ≡ mend_loop (f - 1) k
mend_turn zero i m k n h e p = absurd (omega arith)
mend_turn (suc f) i m k n h e p = let q : suc f - 1 ≡ f = omega arith in loop_at f m i (le-ltb (left_in m) 3 n) e ∙ ap₂ mend_loop (sym q) p

mend_few : (f : ℕ) (m : Mending) → left_in m < 3 → mend_loop f m ≡ m
mend_few f m h = settled_stays f m (inl (omega (arith, length_places m)))

mend_none : (f : ℕ) (m : Mending) → lowest_fault (places_in m) ≡ None → mend_loop f m ≡ m
unfolding lowest_fault
mend_none f m e = settled_stays f m (inr (first_none (is_at_fault (places_in m)) (length (places_in m)) e))

-- one is lost at i, or two
module _ (f : ℕ) (m : Mending) (few : left_in m ≤ f) (three : 3 ≤ left_in m) where
  turn_one : (i : ℕ) → lowest_fault (places_in m) ≡ Some i → is_doubled (places_in m) i ≡ true → mend_loop f m ≡ mend_loop (f - 1) (lose_after i m)
  turn_one i e d = mend_turn f i m (lose_after i m) three few e (mend_one i m d)

  turn_two : (i : ℕ) → lowest_fault (places_in m) ≡ Some i → is_doubled (places_in m) i ≡ false → mend_loop f m ≡ mend_loop (f - 1) (lose_two i m)
  turn_two i e d = mend_turn f i m (lose_two i m) three few e (mend_two i m d)

-- the stack that is left
left_one : (i s : ℕ) (m : Mending) → Clean (lost_one (places_in m) i) s → Clean (places_in (lose_after i m)) s
left_one i s m c = rw (places_lost i m) c

left_two : (i s : ℕ) (m : Mending) → Clean (lost_two (places_in m) i) s → Clean (places_in (lose_two i m)) s
left_two i s m c = rw (places_two i m) c

-- ---- the ends
pub ends_same : (g f : ℕ) (m : Mending) → left_in m ≤ g → left_in m ≤ f → Clean (places_in m) (left_in m) → ends_loop g m ≡ mend_loop f m
unfolding ends_loop
ends_same zero f m k h c = sym (mend_few f m (omega arith))
ends_same (suc g) f m k h c =
    let l = places_in m in
    let n = left_in m in
    let len = length_places m in
    by_test (ltb n 3)
    (λ q. ends_few g m q ∙ sym (mend_few f m (ltb-true n 3 q)))
    (λ q. let three = ltb-false n 3 q in
    let one = length_lost (n - 1) m (omega arith) in
    let near = length_two (n - 2) m (omega arith) in
    let two = length_two (n - 1) m (omega arith) in
    by_test (meet l (n - 2) 0)
    (λ a. ends_near g m q a
    ∙ ends_same g (f - 1) (lose_two (n - 2) m) (omega arith) (omega arith) (rw near (left_two (n - 2) (n - 2) m (clean_near l n len c three)))
    ∙ sym (turn_two f m h three (n - 2) (near_lowest l n len c three a) (near_not l n len c three)))
    (λ a. by_test (meet l (n - 1) 0)
    (λ b. ends_last g m q a b
    ∙ ends_same g (f - 1) (lose_after (n - 1) m) (omega arith) (omega arith) (rw one (left_one (n - 1) (n - 1) m (clean_last l n len c three)))
    ∙ sym (turn_one f m h three (n - 1) (last_lowest l n len c three a b) (last_one l n len c three ∙ b)))
    (λ b. by_test (meet l (n - 1) 1)
    (λ e. ends_last_two g m q a b e
    ∙ ends_same g (f - 1) (lose_two (n - 1) m) (omega arith) (omega arith) (rw two (left_two (n - 1) (n - 2) m (clean_last_two l n len c three)))
    ∙ sym (turn_two f m h three (n - 1) (last_lowest_two l n len c three a b e) (last_one l n len c three ∙ b)))
    (λ e. ends_none g m q a b e ∙ sym (mend_none f m (ends_clear l n len c three a b e))))))

-- ---- the walk
pub stack_same : (r s f : ℕ) (m : Mending) → s + r ≡ left_in m → 1 ≤ s → left_in m ≤ f → Clean (places_in m) s → stack_loop r s m ≡ mend_loop f m
unfolding stack_loop
stack_same zero s f m e some k c = let p : s ≡ left_in m = omega arith in ends_same (left_in m) f m (omega arith) k (subst (Clean (places_in m)) p c)
stack_same (suc r) s f m e some k c =
    let l = places_in m in
    let n = left_in m in
    let len = length_places m in
    let below : s < length l = omega arith in
    by_test (ltb n 3)
    (λ q. stack_few r s m q ∙ sym (mend_few f m (ltb-true n 3 q)))
    (λ q. let three = ltb-false n 3 q in
    let one = length_lost (s - 1) m (omega arith) in
    let two = length_two (s - 2) m (omega arith) in
    by_test (meet l (s - 1) s)
    (λ a. stack_one r s m q a
    ∙ stack_same r s (f - 1) (lose_after (s - 1) m) (omega arith) some (omega arith) (left_one (s - 1) s m (clean_one l s c below some))
    ∙ sym (turn_one f m k three (s - 1) (one_lowest l s c some below a) (one_is l s c some below a)))
    (λ a. by_test (ltb 1 s && meet l (s - 2) s)
    (λ b. let t = ltb-true 1 s (and_left (ltb 1 s) (meet l (s - 2) s) b) in
    stack_two r s m q a b
    ∙ stack_same r (s - 1) (f - 1) (lose_two (s - 2) m) (omega arith) (omega arith) (omega arith) (left_two (s - 2) (s - 1) m (clean_two l s c below t))
    ∙ sym (turn_two f m k three (s - 2) (two_lowest l s c some below t (and_right (ltb 1 s) (meet l (s - 2) s) b)) (two_not l s c some below t)))
    (λ b. stack_joins r s m q a b ∙ stack_same r (s + 1) f m (omega arith) (omega arith) k (joins l s c some below a b))))

pub quick_same : (ps : List Traced) → quick_mended ps ≡ mended ps
unfolding quick_mended mended mend_loop stack_loop ends_loop
quick_same [] = refl
quick_same (p ∷ ps) = let m : Mending = record { points = p ∷ ps; lost = [] } in
    stack_same (left_in m - 1) 1 (left_in m) m (omega arith) (omega arith) (omega arith) (clean_first (places_in m))
