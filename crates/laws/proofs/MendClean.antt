-- Request 12, the quick way: a stack of places within which no rule applies. Which place is the lowest that applies while points are passed, and when all are;
-- and that a loss there leaves such a stack again. Assumes nothing.
-- Key: `one_lowest`, `two_lowest`, `joins`: while points are passed; `near_lowest`, `last_lowest`, `last_lowest_two`, `ends_clear`: when all are;
-- `clean_one`, `clean_two`, `clean_near`, `clean_last`, `clean_last_two`: what a loss leaves.
use Rattle.std.specs.Prelude.{ℕ, ◌+◌, ◌-◌, ◌≤◌, ◌<◌, ◌≡◌, true, false, ◌&&◌, List, ltb, length, get_or, Some, None}
use native.Mathlib.Omega.{arith}
use Rattle.std.proofs.Math.Path.{refl, ap}
use Rattle.std.proofs.Common.{sym, ◌∙◌, ap₂, lt-ltb}
use Rattle.std.proofs.Math.Logic.{⊎_elim}
use Rattle.mem.specs.Cases.{lt_or_le}
use Rattle.rules.specs.declared.Point.{Point}
use Rattle.rules.specs.Plane.{origin, vequal}
use Rattle.rules.specs.Mend.{is_doubled, is_spike, is_at_fault, lowest_fault}
use Rattle.laws.proofs.Lists.{without_below, without_above}
use Rattle.laws.proofs.Lowest.{first_is, first_no}
use Rattle.laws.proofs.Ring.{next_in, next_out}
use Rattle.laws.specs.MendLoss.{lost_one, lost_two}
use Rattle.laws.proofs.MendLoss.{then_in, then_out, length_one, same_place}
use Rattle.laws.specs.MendQuick.{meet}
use Rattle.laws.specs.MendClean.{Clean}

-- ---- a rule that applies, as places that meet
module _ (l : List Point) (i : ℕ) where
  doubled_in : i + 1 < length l → is_doubled l i ≡ meet l i (i + 1)
  unfolding is_doubled meet
  doubled_in h = rw (next_in i (length l) h) refl

  spike_in : i + 2 < length l → is_spike l i ≡ meet l i (i + 2)
  unfolding is_spike meet
  spike_in h = let e : i + 1 + 1 ≡ i + 2 = omega arith in rw (next_in i (length l) (omega arith), next_in (i + 1) (length l) (omega arith), e) refl

  -- at the last place but one, and at the last
  spike_near : i + 2 ≡ length l → is_spike l i ≡ meet l i 0
  unfolding is_spike meet
  spike_near h = rw (next_in i (length l) (omega arith), next_out (i + 1) (length l) (omega arith)) refl

  doubled_last : i + 1 ≡ length l → is_doubled l i ≡ meet l i 0
  unfolding is_doubled meet
  doubled_last h = rw (next_out i (length l) (omega arith)) refl

  spike_last : i + 1 ≡ length l → 1 < length l → is_spike l i ≡ meet l i 1
  unfolding is_spike meet
  spike_last h k = rw (next_out i (length l) (omega arith), next_in 0 (length l) k) refl

  -- the two rules together
  none_here : is_doubled l i ≡ false → is_spike l i ≡ false → is_at_fault l i ≡ false
  unfolding is_at_fault
  none_here e f = rw (e, f) refl

  one_here : is_doubled l i ≡ true → is_at_fault l i ≡ true
  unfolding is_at_fault
  one_here e = rw e refl

  two_here : is_doubled l i ≡ false → is_spike l i ≡ true → is_at_fault l i ≡ true
  unfolding is_at_fault
  two_here e f = rw (e, f) refl

-- what meets j meets k, if these are the same
meet_same : (l : List Point) (i j k : ℕ) → meet l j k ≡ true → meet l i k ≡ meet l i j
unfolding meet
meet_same l i j k e = ap (vequal (get_or l i origin)) (sym (same_place (get_or l j origin) (get_or l k origin) e))

-- ---- the stack: s places within which no rule applies
pub clean_first : (l : List Point) → Clean l 1
clean_first l = record { ones = λ i h. absurd (omega arith); twos = λ i h. absurd (omega arith) }

-- below the last two of the stack nothing applies
clean_below : (l : List Point) (s i : ℕ) → Clean l s → s ≤ length l → i + 2 < s → is_at_fault l i ≡ false
clean_below l s i c n h = none_here l i (doubled_in l i (omega arith) ∙ c.ones i (omega arith)) (spike_in l i (omega arith) ∙ c.twos i h)

-- ---- while points are passed: s of them are, and the point at s is next
module _ (l : List Point) (s : ℕ) (c : Clean l s) (some : 1 ≤ s) (h : s < length l) where
  pub one_is : meet l (s - 1) s ≡ true → is_doubled l (s - 1) ≡ true
  one_is e = let p : s - 1 + 1 ≡ s = omega arith in doubled_in l (s - 1) (omega arith) ∙ ap (meet l (s - 1)) p ∙ e

  one_before : meet l (s - 1) s ≡ true → (j : ℕ) → j < s - 1 → is_at_fault l j ≡ false
  one_before e j k = ⊎_elim
      (λ (a : j + 2 < s). clean_below l s j c (omega arith) a)
      (λ (a : s ≤ j + 2). let p : s - 1 ≡ j + 1 = omega arith in let q : s ≡ j + 2 = omega arith in
      let clear = c.ones j (omega arith) in
      none_here l j (doubled_in l j (omega arith) ∙ clear) (spike_in l j (omega arith) ∙ meet_same l j (j + 1) (j + 2) (sym (ap₂ (meet l) p q) ∙ e) ∙ clear))
      (lt_or_le (j + 2) s)

  pub one_lowest : meet l (s - 1) s ≡ true → lowest_fault l ≡ Some (s - 1)
  unfolding lowest_fault
  one_lowest e = first_is (is_at_fault l) (length l) (s - 1) (omega arith) (one_here l (s - 1) (one_is e)) (one_before e)

  pub two_not : 2 ≤ s → is_doubled l (s - 2) ≡ false
  two_not k = doubled_in l (s - 2) (omega arith) ∙ c.ones (s - 2) (omega arith)

  pub two_lowest : 2 ≤ s → meet l (s - 2) s ≡ true → lowest_fault l ≡ Some (s - 2)
  unfolding lowest_fault
  two_lowest k e = let p : s - 2 + 2 ≡ s = omega arith in
      first_is (is_at_fault l) (length l) (s - 2) (omega arith)
      (two_here l (s - 2) (two_not k) (spike_in l (s - 2) (omega arith) ∙ ap (meet l (s - 2)) p ∙ e)) (λ j a. clean_below l s j c (omega arith) (omega arith))

  pub joins : meet l (s - 1) s ≡ false → (ltb 1 s && meet l (s - 2) s) ≡ false → Clean l (s + 1)
  joins e f = record {
    ones = λ i a. ⊎_elim (c.ones i)
        (λ (b : s ≤ i + 1). let p : s - 1 ≡ i = omega arith in let q : s ≡ i + 1 = omega arith in sym (ap₂ (meet l) p q) ∙ e) (lt_or_le (i + 1) s);
    twos = λ i a. ⊎_elim (c.twos i)
        (λ (b : s ≤ i + 2). let p : s - 2 ≡ i = omega arith in let q : s ≡ i + 2 = omega arith in
        sym (ap₂ (meet l) p q) ∙ (rw (lt-ltb 1 s (omega arith)) at f)) (lt_or_le (i + 2) s);
  }

-- ---- when all n are passed
module _ (l : List Point) (n : ℕ) (len : length l ≡ n) (c : Clean l n) (three : 3 ≤ n) where
  pub near_not : is_doubled l (n - 2) ≡ false
  near_not = doubled_in l (n - 2) (omega arith) ∙ c.ones (n - 2) (omega arith)

  near_is : is_spike l (n - 2) ≡ meet l (n - 2) 0
  near_is = spike_near l (n - 2) (omega arith)

  pub last_one : is_doubled l (n - 1) ≡ meet l (n - 1) 0
  last_one = doubled_last l (n - 1) (omega arith)

  last_two : is_spike l (n - 1) ≡ meet l (n - 1) 1
  last_two = spike_last l (n - 1) (omega arith) (omega arith)

  pub near_lowest : meet l (n - 2) 0 ≡ true → lowest_fault l ≡ Some (n - 2)
  unfolding lowest_fault
  near_lowest e = first_is (is_at_fault l) (length l) (n - 2) (omega arith) (two_here l (n - 2) near_not (near_is ∙ e))
      (λ j a. clean_below l n j c (omega arith) (omega arith))

  module _ (e : meet l (n - 2) 0 ≡ false) where
    below_last : (j : ℕ) → j < n - 1 → is_at_fault l j ≡ false
    below_last j h = ⊎_elim (clean_below l n j c (omega arith))
        (λ (a : n ≤ j + 2). let p : j ≡ n - 2 = omega arith in rw p (none_here l (n - 2) near_not (near_is ∙ e))) (lt_or_le (j + 2) n)

    pub last_lowest : meet l (n - 1) 0 ≡ true → lowest_fault l ≡ Some (n - 1)
    unfolding lowest_fault
    last_lowest f = first_is (is_at_fault l) (length l) (n - 1) (omega arith) (one_here l (n - 1) (last_one ∙ f)) below_last

    pub last_lowest_two : meet l (n - 1) 0 ≡ false → meet l (n - 1) 1 ≡ true → lowest_fault l ≡ Some (n - 1)
    unfolding lowest_fault
    last_lowest_two f g = first_is (is_at_fault l) (length l) (n - 1) (omega arith) (two_here l (n - 1) (last_one ∙ f) (last_two ∙ g)) below_last

    pub ends_clear : meet l (n - 1) 0 ≡ false → meet l (n - 1) 1 ≡ false → lowest_fault l ≡ None
    unfolding lowest_fault
    ends_clear f g = first_no (is_at_fault l) (length l) (λ j h. ⊎_elim (below_last j)
        (λ (a : n - 1 ≤ j). let p : j ≡ n - 1 = omega arith in rw p (none_here l (n - 1) (last_one ∙ f) (last_two ∙ g))) (lt_or_le j (n - 1)))

-- ---- what is left is such a stack again

-- s places of k are those of l from d on
clean_shift : (l k : List Point) (s t d : ℕ) → ((i : ℕ) → i < s → get_or k i origin ≡ get_or l (i + d) origin) → s + d ≤ t → Clean l t → Clean k s
unfolding meet
clean_shift l k s t d f h c = record {
  ones = λ i a. let p : i + 1 + d ≡ i + d + 1 = omega arith in rw (f i (omega arith), f (i + 1) a, p) (c.ones (i + d) (omega arith));
  twos = λ i a. let p : i + 2 + d ≡ i + d + 2 = omega arith in rw (f i (omega arith), f (i + 2) a, p) (c.twos (i + d) (omega arith));
}

-- one is lost after i: within the list what stands up to i stays; at its end the first goes
module _ (l : List Point) (i s t : ℕ) (c : Clean l t) where
  clean_in : i + 1 < length l → s ≤ i + 1 → s ≤ t → Clean (lost_one l i) s
  unfolding lost_one
  clean_in h a b = clean_shift l (lost_one l i) s t 0
      (λ j k. let z : j + 0 ≡ j = omega arith in rw (next_in i (length l) h, z) (without_below l (i + 1) j origin h (omega arith))) (omega arith) c

  clean_out : i + 1 ≡ length l → s + 1 ≤ t → Clean (lost_one l i) s
  unfolding lost_one
  clean_out h a = clean_shift l (lost_one l i) s t 1
      (λ j k. rw (next_out i (length l) (omega arith)) (without_above l 0 j origin (omega arith) (omega arith))) (omega arith) c

module _ (l : List Point) (s : ℕ) (c : Clean l s) (h : s < length l) where
  pub clean_one : 1 ≤ s → Clean (lost_one l (s - 1)) s
  clean_one k = clean_in l (s - 1) s s c (omega arith) (omega arith) (omega arith)

  pub clean_two : 2 ≤ s → Clean (lost_two l (s - 2)) (s - 1)
  unfolding lost_two
  clean_two k =
      let first = clean_in l (s - 2) (s - 1) s c (omega arith) (omega arith) (omega arith) in
      let e = length_one l (s - 2) (omega arith) in
      rw (then_in (s - 2) (length l) (omega arith)) (clean_in (lost_one l (s - 2)) (s - 2) (s - 1) (s - 1) first (omega arith) (omega arith) (omega arith))

module _ (l : List Point) (n : ℕ) (len : length l ≡ n) (c : Clean l n) (three : 3 ≤ n) where
  pub clean_near : Clean (lost_two l (n - 2)) (n - 2)
  unfolding lost_two
  clean_near =
      let first = clean_in l (n - 2) (n - 1) n c (omega arith) (omega arith) (omega arith) in
      let e = length_one l (n - 2) (omega arith) in
      rw (then_in (n - 2) (length l) (omega arith)) (clean_out (lost_one l (n - 2)) (n - 2) (n - 2) (n - 1) first (omega arith) (omega arith))

  pub clean_last : Clean (lost_one l (n - 1)) (n - 1)
  clean_last = clean_out l (n - 1) (n - 1) n c (omega arith) (omega arith)

  pub clean_last_two : Clean (lost_two l (n - 1)) (n - 2)
  unfolding lost_two
  clean_last_two =
      let e = length_one l (n - 1) (omega arith) in
      rw (then_out (n - 1) (length l) (omega arith)) (clean_out (lost_one l (n - 1)) (n - 1 - 1) (n - 2) (n - 1) clean_last (omega arith) (omega arith))
