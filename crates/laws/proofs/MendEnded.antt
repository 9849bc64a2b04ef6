-- Request 12, as the code has it: taking numbers off the two ends of the stack is what the quick way does with the points. Assumes nothing.
-- Key: `ends_by_number`; `mend_in_numbers`: the walk and then the ends give what the sentences give; `ended_sound`: what they leave rises, and has its numbers.
use Rattle.std.specs.Prelude.{ℕ, zero, suc, ◌+◌, ◌-◌, ◌*◌, ◌≤◌, ◌<◌, ◌≡◌, refl, false, List, [], ltb, length, get_or}
use Rattle.std.proofs.Common.{arith, add-one, ◌∙◌, ap₂, subst, append-nil, ltb-false}
use Rattle.std.proofs.Math.Path.{sym, ap}
use Rattle.std.proofs.Math.Bool.{true}
use Rattle.mem.specs.Cases.{by_test}
use Rattle.mem.specs.Loops.{times, times_ind}
use Rattle.mem.specs.Slice.{view, length_view, get_or_view, view_snoc, view_cons, view_all}
use Rattle.rules.specs.Lists.{without}
use Rattle.rules.specs.Job.{job_stride}
use Rattle.rules.specs.Mend.{traced, mended, Mending, place_then, lose_after, lose_two}
use Rattle.laws.proofs.Lists.{without_seam}
use Rattle.laws.proofs.Ring.{next_in, next_out}
use Rattle.laws.proofs.MendLoss.{then_in, then_out}
use Rattle.laws.specs.Mend.{left_in, places_in}
use Rattle.laws.specs.MendQuick.{meet, ends_loop}
use Rattle.laws.proofs.MendQuick.{ends_few, ends_near, ends_last, ends_last_two, ends_none}
use Rattle.laws.specs.MendNumbers.{carried_if, same_place, Numbered, mending_of, lose_number, lose_two_numbers, Sound}
use Rattle.laws.proofs.MendNumbers.{length_points}
use Rattle.laws.proofs.MendNumbers.{lose_sound, lose_number_lem, lose_two_numbers_lem, meet_at}
use Rattle.laws.specs.MendPass.{Passing, rising, left_of}
use Rattle.laws.specs.MendWalk.{finished, passed_all}
use Rattle.laws.proofs.MendWalk.{ends_under, passed_all_sound, mend_by_number}
use Rattle.laws.specs.MendEnds.{Ending, part_of, off_front, off_back, end_turn, ends_by}
use Rattle.laws.proofs.MendEnds.{turn_few, turn_near, turn_last, turn_last_two, turn_none, turn_ind}
use Rattle.laws.specs.MendEnded.{SoundEnds, end_start, ended_all}

-- ---- one off an end
module _ {A : Type 0} (st : List A) (lo n : ℕ) (d : A) (h : lo + n ≤ length st) (some : 1 ≤ n) where
  without_front : without (view st lo n) 0 ≡ view st (lo + 1) (n - 1)
  without_front = let e : n ≡ suc (n - 1) = omega arith in
      ap (λ (k : ℕ). without (view st lo k) 0) e ∙ ap (λ (l : List A). without l 0) (view_cons st lo (n - 1) d (omega arith))
      ∙ without_seam [] (get_or st lo d) (view st (suc lo) (n - 1)) 0 refl ∙ ap (λ (k : ℕ). view st k (n - 1)) (sym (add-one lo))

  without_back : without (view st lo n) (n - 1) ≡ view st lo (n - 1)
  without_back = let e : n ≡ n - 1 + 1 = omega arith in
      ap (λ (k : ℕ). without (view st lo k) (n - 1)) e ∙ ap (λ (l : List A). without l (n - 1)) (view_snoc st lo (n - 1) d (omega arith))
      ∙ without_seam (view st lo (n - 1)) (get_or st (lo + (n - 1)) d) [] (n - 1) (length_view st lo (n - 1) (omega arith)) ∙ append-nil (view st lo (n - 1))

part_long : (st : List ℕ) (w : Ending) → w.lo + w.n ≤ length st → length (part_of st w).left ≡ w.n
unfolding part_of
part_long st w h = length_view st w.lo w.n h

front_lost : (st : List ℕ) (w : Ending) → w.lo + w.n ≤ length st → 1 ≤ w.n → lose_number (w.n - 1) (part_of st w) ≡ part_of st (off_front true st w)
unfolding lose_number part_of off_front carried_if
front_lost st w h some =
    let z : w.lo + 0 ≡ w.lo = omega arith in
    rw (
      length_view st w.lo w.n h,
      next_out (w.n - 1) w.n (omega arith),
      without_front st w.lo w.n 0 h some,
      get_or_view st w.lo w.n 0 0 (omega arith),
      get_or_view st w.lo w.n (w.n - 1) 0 (omega arith),
      z,
    ) refl

back_lost : (st : List ℕ) (w : Ending) → w.lo + w.n ≤ length st → 2 ≤ w.n → lose_number (w.n - 2) (part_of st w) ≡ part_of st (off_back true st w)
unfolding lose_number part_of off_back carried_if
back_lost st w h two =
    let z : w.n - 2 + 1 ≡ w.n - 1 = omega arith in
    rw (
      length_view st w.lo w.n h,
      next_in (w.n - 2) w.n (omega arith),
      z,
      without_back st w.lo w.n 0 h (omega arith),
      get_or_view st w.lo w.n (w.n - 1) 0 (omega arith),
      get_or_view st w.lo w.n (w.n - 2) 0 (omega arith),
    ) refl

sound_lost : {st : List ℕ} {w v : Ending} (i : ℕ) → lose_number i (part_of st w) ≡ part_of st v → v.lo + v.n ≤ length st → SoundEnds st w → SoundEnds st v
sound_lost {st} {w} i e h s = record { within = h; sound = subst Sound e (lose_sound i (part_of st w) s.sound) }

sound_turn : (st : List ℕ) (w : Ending) → SoundEnds st w → SoundEnds st (end_turn true st w)
unfolding off_front off_back
sound_turn st w s = turn_ind (SoundEnds st) true st
    (λ v h p. sound_lost (v.n - 1) (front_lost st v p.within h) (omega arith) p)
    (λ v h p. sound_lost (v.n - 2) (back_lost st v p.within h) (omega arith) p) w s

-- ---- a turn is one of the quick way's
module _ (st : List ℕ) (w : Ending) (s : SoundEnds st w) (three : 3 ≤ w.n) where
  -- places of what is left meet as their numbers do
  part_meet : (i j p q : ℕ) → i < w.n → j < w.n → w.lo + i ≡ p → w.lo + j ≡ q
      → meet (places_in (mending_of (part_of st w))) i j ≡ same_place w.numbers (get_or st p 0) (get_or st q 0)
  unfolding part_of
  part_meet i j p q a b e f = let n = part_long st w s.within in
      rw (← e, ← f, ← get_or_view st w.lo w.n i 0 a, ← get_or_view st w.lo w.n j 0 b) (meet_at (part_of st w) i j (omega arith) (omega arith))

  one_is : lose_after (w.n - 1) (mending_of (part_of st w)) ≡ mending_of (part_of st (off_front true st w))
  one_is = let n = part_long st w s.within in
      sym (lose_number_lem (w.n - 1) (part_of st w) s.sound (omega arith)) ∙ ap mending_of (front_lost st w s.within (omega arith))

  -- one is lost, and then the first
  two_is : (i : ℕ) (v : Ending) → i < w.n → lose_number i (part_of st w) ≡ part_of st v → place_then i w.n ≡ v.n - 1 → v.lo + v.n ≤ length st → 1 ≤ v.n
      → lose_two i (mending_of (part_of st w)) ≡ mending_of (part_of st (off_front true st v))
  unfolding lose_two_numbers
  two_is i v h e p k some = let n = part_long st w s.within in
      sym (lose_two_numbers_lem i (part_of st w) s.sound (omega arith) (omega arith))
      ∙ ap mending_of (ap₂ lose_number (ap (place_then i) n ∙ p) e ∙ front_lost st v k some)

-- where nothing applies the quick way stays
ends_stay : (g : ℕ) (m : Mending) → ltb (left_in m) 3 ≡ false → meet (places_in m) (left_in m - 2) 0 ≡ false → meet (places_in m) (left_in m - 1) 0 ≡ false
    → meet (places_in m) (left_in m - 1) 1 ≡ false → ends_loop g m ≡ m
unfolding ends_loop
ends_stay zero m e a b c = refl
ends_stay (suc g) m e a b c = ends_none g m e a b c

ends_turn : (g : ℕ) (st : List ℕ) (w : Ending) → SoundEnds st w
    → ends_loop (suc g) (mending_of (part_of st w)) ≡ ends_loop g (mending_of (part_of st (end_turn true st w)))
unfolding off_front off_back
ends_turn g st w s =
    let m = mending_of (part_of st w) in
    let l = places_in m in
    let k = left_in m in
    let fits = s.within in
    let len : k ≡ w.n = length_points (part_of st w) ∙ part_long st w fits in
    let go : (v : Ending) → end_turn true st w ≡ v → ends_loop g (mending_of (part_of st v)) ≡ ends_loop g (mending_of (part_of st (end_turn true st w))) =
    λ v e. ap (λ (u : Ending). ends_loop g (mending_of (part_of st u))) (sym e) in
    by_test (ltb k 3)
    (λ q. ends_few g m q ∙ sym (ends_under g m q) ∙ go w (turn_few true st w (ap (λ (i : ℕ). ltb i 3) (sym len) ∙ q)))
    (λ q. let q' : ltb w.n 3 ≡ false = ap (λ (i : ℕ). ltb i 3) (sym len) ∙ q in
    let three : 3 ≤ w.n = ltb-false w.n 3 q' in
    let near = part_meet st w s three (k - 2) 0 (w.lo + (w.n - 2)) w.lo (omega arith) (omega arith) (omega arith) (omega arith) in
    let last = part_meet st w s three (k - 1) 0 (w.lo + (w.n - 1)) w.lo (omega arith) (omega arith) (omega arith) (omega arith) in
    let last2 = part_meet st w s three (k - 1) 1 (w.lo + (w.n - 1)) (w.lo + 1) (omega arith) (omega arith) (omega arith) (omega arith) in
    by_test (meet l (k - 2) 0)
    (λ a. ends_near g m q a ∙ ap (λ (i : ℕ). ends_loop g (lose_two (i - 2) m)) len
    ∙ ap (ends_loop g) (two_is st w s three (w.n - 2) (off_back true st w) (omega arith) (back_lost st w fits (omega arith))
    (then_in (w.n - 2) w.n (omega arith) ∙ omega arith) (omega arith) (omega arith))
    ∙ go _ (turn_near true st w q' (sym near ∙ a)))
    (λ a. by_test (meet l (k - 1) 0)
    (λ b. ends_last g m q a b ∙ ap (λ (i : ℕ). ends_loop g (lose_after (i - 1) m)) len ∙ ap (ends_loop g) (one_is st w s three)
    ∙ go _ (turn_last true st w q' (sym near ∙ a) (sym last ∙ b)))
    (λ b. by_test (meet l (k - 1) 1)
    (λ c. ends_last_two g m q a b c ∙ ap (λ (i : ℕ). ends_loop g (lose_two (i - 1) m)) len
    ∙ ap (ends_loop g) (two_is st w s three (w.n - 1) (off_front true st w) (omega arith) (front_lost st w fits (omega arith))
    (then_out (w.n - 1) w.n (omega arith)) (omega arith) (omega arith))
    ∙ go _ (turn_last_two true st w q' (sym near ∙ a) (sym last ∙ b) (sym last2 ∙ c)))
    (λ c. ends_none g m q a b c ∙ sym (ends_stay g m q a b c) ∙ go w (turn_none true st w q' (sym near ∙ a) (sym last ∙ b) (sym last2 ∙ c))))))

pub ends_by_number : (g : ℕ) (st : List ℕ) (w : Ending) → SoundEnds st w → ends_loop g (mending_of (part_of st w)) ≡ mending_of (part_of st (ends_by true g st w))
unfolding ends_loop ends_by times
ends_by_number zero st w s = refl
ends_by_number (suc g) st w s = ends_turn g st w s ∙ ends_by_number g st (end_turn true st w) (sound_turn st w s)

-- ---- the whole contour of n points from the vertex `first` on: one walk, then the ends
whole_part : (w : Passing) → left_of 0 0 w ≡ part_of w.stack (end_start w)
unfolding left_of part_of end_start rising
whole_part w = ap (λ (l : List ℕ). record { left = l; lost = w.lost; numbers = w.numbers })
    (append-nil w.stack ∙ sym (view_all w.stack (length w.stack) (omega arith)))

start_ends : (w : Passing) → Sound (left_of 0 0 w) → SoundEnds w.stack (end_start w)
unfolding end_start
start_ends w s = record { within = omega arith; sound = subst Sound (whole_part w) s }

ended_same : (w : Passing) → Sound (left_of 0 0 w) → finished w ≡ mending_of (part_of w.stack (ended_all true w))
unfolding finished ended_all end_start
ended_same w s =
    let e = start_ends w s in
    let n : left_in (mending_of (part_of w.stack (end_start w))) ≡ length w.stack =
    length_points (part_of w.stack (end_start w)) ∙ part_long w.stack (end_start w) e.within in
    ap (λ (u : Numbered). ends_loop (left_in (mending_of u)) (mending_of u)) (whole_part w)
    ∙ ap (λ (k : ℕ). ends_loop k (mending_of (part_of w.stack (end_start w)))) n
    ∙ ends_by_number (length w.stack) w.stack (end_start w) e

module _ (ns : List ℕ) (first n : ℕ) (some : 1 ≤ n) (fits : (first + n) * job_stride ≤ length ns) where
  pub ended_sound : Sound (part_of (passed_all true ns first n).stack (ended_all true (passed_all true ns first n)))
  unfolding ended_all ends_by
  ended_sound = let w = passed_all true ns first n in
      (times_ind (end_turn true w.stack) (SoundEnds w.stack) (sound_turn w.stack) (length w.stack) (end_start w)
      (start_ends w (passed_all_sound ns first n some fits))).sound

  -- the sentences, as the code finds them: the kept are the numbers of the stack from lo on, with the flags that were written, and the list is the walk's
  pub mend_in_numbers : mended (traced ns first n) ≡ mending_of (part_of (passed_all true ns first n).stack (ended_all true (passed_all true ns first n)))
  mend_in_numbers = mend_by_number ns first n some fits ∙ ended_same (passed_all true ns first n) (passed_all_sound ns first n some fits)
