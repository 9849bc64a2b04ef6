-- Request 12: what mending a contour keeps, and that it ends. Assumes nothing.
-- Key: `mend_keeps_area`, `mend_settles`, `mend_twice`, `mend_counted`, the statements of `rules`; `mend_ind`: what every step keeps holds at the end.
use Prim.Native.Nat.{ℕ, zero, suc, ◌+◌, ◌-◌, ◌≤◌, ◌<◌}
use Rattle.std.proofs.Common.{arith, sym, ◌∙◌, subst, inl, inr, ⊎_elim}
use Rattle.std.specs.Prelude.{◌≡◌, true, false, ltb, length, get_or, set, Some, None}
use Rattle.std.proofs.Math.Path.{refl, ap, ap₂}
use mathlib.Core.List.{List, [], ◌∷◌, map}
use borrow.Author.Tests.{ltb-true, ltb-false}
use Rattle.std.proofs.Math.ListN.{length-append}
use Rattle.std.proofs.lemmas.List.{length-map}
use Rattle.std.proofs.Math.Seq.{map-set_same}
use Rattle.mem.specs.Cases.{lt_or_le, by_test}
use Rattle.rules.specs.declared.Point.{Point}
use Rattle.rules.specs.Lists.{next, without}
use Rattle.rules.specs.Plane.{area}
use Rattle.rules.specs.Mend.{Traced, no_traced, stands_at, trace_places, is_doubled, is_at_fault, lowest_fault, Mending, takes_flag, lose_after, place_then}
use Rattle.rules.specs.Mend.{lose_two, mend_at, mend_loop, mended, MendKeepsArea, Settled, MendSettles, MendTwice, MendCounted}
use Rattle.laws.proofs.Lists.{map_without}
use Rattle.laws.proofs.Lowest.{first_found, first_none, first_no, by_found}
use Rattle.laws.specs.MendLoss.{lost_one, lost_two}
use Rattle.laws.proofs.MendLoss.{length_one, area_doubled, area_spike}
use Rattle.laws.specs.Mend.{left_in, places_in, Step, one_lost, two_lost, Counts}

pub length_places : (m : Mending) → length (places_in m) ≡ left_in m
unfolding trace_places
length_places m = length-map m.points stands_at

-- ---- one is lost after i
module _ (i : ℕ) (m : Mending) where
  -- as any f sees the points that doesn't see their flags
  pub map_lost : {B : Type 0} (f : Traced → B) → ((p q : Traced) → f (takes_flag p q) ≡ f p) → map f (lose_after i m).points ≡ lost_one (map f m.points) i
  unfolding lose_after lost_one
  map_lost {B} f e = let k = next i (left_in m) in rw (length-map m.points f)
      (map_without f (set m.points i _) k ∙ ap (λ (l : List B). without l k) (map-set_same f m.points i _ no_traced (e _ _)))

  pub places_lost : places_in (lose_after i m) ≡ lost_one (places_in m) i
  unfolding trace_places takes_flag
  places_lost = map_lost stands_at (λ p q. refl)

  pub length_lost : 0 < left_in m → left_in (lose_after i m) ≡ left_in m - 1
  length_lost h = let e = length_places m in
      omega (arith, length_places (lose_after i m), ap length places_lost, length_one (places_in m) i (omega arith))

  pub list_lost : length (lose_after i m).lost ≡ length m.lost + 1
  unfolding lose_after
  list_lost = length-append m.lost ((get_or m.points (next i (left_in m)) no_traced).number ∷ [])

-- ---- two are lost
module _ (i : ℕ) (m : Mending) where
  pub places_two : places_in (lose_two i m) ≡ lost_two (places_in m) i
  unfolding lose_two lost_two
  places_two = places_lost (place_then i (left_in m)) (lose_after i m)
      ∙ ap₂ (λ (l : List Point) (n : ℕ). lost_one l (place_then i n)) (places_lost i m) (sym (length_places m))

  pub length_two : 2 ≤ left_in m → left_in (lose_two i m) ≡ left_in m - 2
  unfolding lose_two
  length_two h = let e = length_lost i m (omega arith) in omega (arith, length_lost (place_then i (left_in m)) (lose_after i m) (omega arith))

  pub list_two : length (lose_two i m).lost ≡ length m.lost + 2
  unfolding lose_two
  list_two = omega (arith, list_lost i m, list_lost (place_then i (left_in m)) (lose_after i m))

-- ---- a step: at some place one is lost, or two
module _ (i : ℕ) (m : Mending) where
  pub mend_one : is_doubled (places_in m) i ≡ true → mend_at i m ≡ lose_after i m
  unfolding mend_at
  mend_one e = rw (e, mend_at) refl

  pub mend_two : is_doubled (places_in m) i ≡ false → mend_at i m ≡ lose_two i m
  unfolding mend_at
  mend_two e = rw (e, mend_at) refl

  step_at : 3 ≤ left_in m → i < left_in m → is_at_fault (places_in m) i ≡ true → Step m (mend_at i m)
  unfolding is_at_fault
  step_at n h e = by_test (is_doubled (places_in m) i)
      (λ q. rw (mend_one q) (one_lost i n h q))
      (λ q. rw (mend_two q) (two_lost i n h q (rw q at e)))

-- ---- the loop, turn by turn
module _ (f : ℕ) (m : Mending) where
  loop_few : ltb (left_in m) 3 ≡ true → mend_loop (suc f) m ≡ m
  unfolding mend_loop
  loop_few e = rw (e, mend_loop) refl

  loop_none : ltb (left_in m) 3 ≡ false → lowest_fault (places_in m) ≡ None → mend_loop (suc f) m ≡ m
  unfolding mend_loop
  loop_none e g = rw (e, mend_loop, g) refl

  pub loop_at : (i : ℕ) → ltb (left_in m) 3 ≡ false → lowest_fault (places_in m) ≡ Some i → mend_loop (suc f) m ≡ mend_loop f (mend_at i m)
  unfolding mend_loop
  loop_at i e g = rw (e, mend_loop, g) refl

  -- it stays where nothing is left to do, and else makes a step
  by_turn : (Q : Mending → Type 0) → (Settled (places_in m) → Q m) → ((n : Mending) → Step m n → Q (mend_loop f n)) → Q (mend_loop (suc f) m)
  unfolding lowest_fault
  by_turn Q stays goes = let l = places_in m in let len = length_places m in
      by_test (ltb (left_in m) 3)
      (λ q. rw (loop_few q) (stays (inl (omega (arith, ltb-true (left_in m) 3 q)))))
      (λ q. by_found (lowest_fault l)
      (λ i r. let k = first_found (is_at_fault l) (length l) i r in
      rw (loop_at i q r) (goes (mend_at i m) (step_at i m (ltb-false (left_in m) 3 q) (omega (arith, k.high)) k.is)))
      (λ r. rw (loop_none q r) (stays (inr (first_none (is_at_fault l) (length l) r)))))

-- what every step keeps holds at the end
module _ (P : Mending → Type 0) (kept : (m n : Mending) → Step m n → P m → P n) where
  pub loop_ind : (f : ℕ) (m : Mending) → P m → P (mend_loop f m)
  unfolding mend_loop
  loop_ind zero m p = p
  loop_ind (suc f) m p = by_turn f m P (λ s. p) (λ n s. loop_ind f n (kept m n s p))

  pub mend_ind : (ps : List Traced) → P (record { points = ps; lost = [] }) → P (mended ps)
  unfolding mended
  mend_ind ps p = loop_ind (length ps) (record { points = ps; lost = [] }) p

-- ---- what a step keeps
area_step : (m n : Mending) → Step m n → area (places_in n) ≡ area (places_in m)
area_step m _ (one_lost i three h e) = let k = length_places m in ap area (places_lost i m) ∙ area_doubled (places_in m) i (omega arith) e
area_step m _ (two_lost i three h d e) = let k = length_places m in ap area (places_two i m) ∙ area_spike (places_in m) i (omega arith) (omega arith) e

pub mend_keeps_area : MendKeepsArea
mend_keeps_area ps = mend_ind (λ (m : Mending). area (places_in m) ≡ area (trace_places ps)) (λ m n s p. area_step m n s ∙ p) ps refl

pub counts_step : (m n : Mending) → Step m n → Counts m n
counts_step m _ (one_lost i three h e) = let a = length_lost i m (omega arith) in let b = list_lost i m in
    record { all = omega arith; fewer = omega arith; some = omega arith }
counts_step m _ (two_lost i three h d e) = let a = length_two i m (omega arith) in let b = list_two i m in
    record { all = omega arith; fewer = omega arith; some = omega arith }

-- of some points at least one is kept
record Counted (n : ℕ) (m : Mending) : Type 0 where
  whole : left_in m + length m.lost ≡ n
  some : 0 < n → 0 < left_in m

pub mend_counted : MendCounted
mend_counted ps =
    let c = mend_ind (Counted (length ps))
    (λ m n s p. let k = counts_step m n s in record { whole = k.all ∙ p.whole; some = λ (h : 0 < length ps). k.some })
    ps (record { whole = omega arith; some = λ (h : 0 < length ps). h }) in
    record {
      all = c.whole;
      most = ⊎_elim (λ (h : 0 < length ps). omega (arith, c.whole, c.some h)) (λ (h : length ps ≤ 0). omega (arith, c.whole)) (lt_or_le 0 (length ps));
    }

-- ---- the end: as many turns as there are points are enough
settles : (f : ℕ) (m : Mending) → left_in m ≤ f → Settled (places_in (mend_loop f m))
unfolding mend_loop
settles zero m h = inl (omega (arith, length_places m))
settles (suc f) m h = by_turn f m (λ (t : Mending). Settled (places_in t)) (λ s. s) (λ n s. settles f n (omega (arith, (counts_step m n s).fewer)))

pub mend_settles : MendSettles
unfolding mended
mend_settles ps = settles (length ps) (record { points = ps; lost = [] }) (omega arith)

-- where nothing is left to do, nothing is done
pub settled_stays : (f : ℕ) (m : Mending) → Settled (places_in m) → mend_loop f m ≡ m
unfolding mend_loop lowest_fault
settled_stays zero m s = refl
settled_stays (suc f) m s = let l = places_in m in let len = length_places m in
    by_test (ltb (left_in m) 3) (loop_few f m) (λ q. loop_none f m q (⊎_elim
    (λ (h : length l < 3). absurd (omega (arith, ltb-false (left_in m) 3 q)))
    (first_no (is_at_fault l) (length l))
    s))

pub mend_twice : MendTwice
unfolding mended
mend_twice ps qs e = settled_stays (length qs) (record { points = qs; lost = [] }) (subst Settled (sym e) (mend_settles ps))
