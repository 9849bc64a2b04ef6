-- Request 12, as the code has it: what the steps don't look at. The walk is run twice, once without writing a flag; both runs go alike, for a flag changes no
-- place. And the ends don't look at what was lost before. Assumes nothing.
-- Key: `each_dry`, `turns_dry`: a run that writes nothing leaves and loses the same, and its numbers stay; `turns_behind`: what was lost before stays in front.
use Prim.Native.Nat.{ℕ, zero, suc, ◌+◌, ◌-◌}
use Rattle.std.specs.Prelude.{◌≡◌, Bool, ◌&&◌, List, [], ◌∷◌, ◌++◌, length}
use Rattle.std.proofs.Math.Path.{refl, ap}
use Rattle.std.proofs.Common.{sym, ◌∙◌, ap₂, append_assoc}
use Rattle.std.proofs.Math.Bool.{false}
use Rattle.std.proofs.Math.Dec.{ltb}
use Rattle.mem.specs.Cases.{by_test}
use Rattle.mem.specs.Loops.{steps, each, each_ind, times}
use Rattle.laws.specs.MendNumbers.{same_place, carried_if}
use Rattle.laws.proofs.MendNumbers.{kept_place}
use Rattle.laws.specs.MendPass.{Passing, top_of, second_of, joining, losing, turning, pass}
use Rattle.laws.proofs.MendPass.{pass_few, pass_lost, pass_turned, pass_joined, by_pass}
use Rattle.laws.specs.MendEnds.{Ending, first_of, after_first, last_of, before_last, is_near, is_last, is_last_two, off, off_front, off_back, end_turn}
use Rattle.laws.proofs.MendEnds.{turn_few, turn_near, turn_last, turn_last_two, turn_none, turn_ind}
use Rattle.laws.specs.MendDry.{Placed, with_numbers, ends_with, behind}

-- ---- while points are passed

module _ (ns : List ℕ) (t : Bool) (e : ℕ) where
  placed_if : (ms : List ℕ) (p q : ℕ) → Placed ns ms → Placed ns (carried_if t ms p q)
  placed_if ms p q h a b = h a b ∙ sym (kept_place t ms p q a b)

  placed_pass : (j : ℕ) (w : Passing) → Placed ns w.numbers → Placed ns (pass t e j w).numbers
  unfolding joining losing turning
  placed_pass j w h =
      let top = top_of w.stack in
      let second = second_of w.stack in
      by_pass (λ v. Placed ns v.numbers) t e j w h (placed_if w.numbers top j h)
      (λ two. placed_if (carried_if t w.numbers second top) second j (placed_if w.numbers second top h))

  pass_dry : (j : ℕ) (w : Passing) → Placed ns w.numbers → pass false e j (with_numbers ns w) ≡ with_numbers ns (pass t e j w)
  unfolding with_numbers joining losing turning carried_if
  pass_dry j w h =
      let v = with_numbers ns w in
      let st = w.stack in
      let top = h (top_of st) j in
      let second = ap (λ (b : Bool). ltb 1 (length st) && b) (h (second_of st) j) in
      by_test (ltb (length st + (e - j)) 3)
      (λ q. pass_few false e j v q ∙ ap (with_numbers ns) (sym (pass_few t e j w q)))
      (λ q. by_test (same_place w.numbers (top_of st) j)
      (λ a. pass_lost false e j v q (top ∙ a) ∙ ap (with_numbers ns) (sym (pass_lost t e j w q a)))
      (λ a. by_test (ltb 1 (length st) && same_place w.numbers (second_of st) j)
      (λ b. pass_turned false e j v q (top ∙ a) (second ∙ b) ∙ ap (with_numbers ns) (sym (pass_turned t e j w q a b)))
      (λ b. pass_joined false e j v q (top ∙ a) (second ∙ b) ∙ ap (with_numbers ns) (sym (pass_joined t e j w q a b)))))

  steps_dry : (m j : ℕ) (w : Passing) → Placed ns w.numbers → steps (pass false e) j m (with_numbers ns w) ≡ with_numbers ns (steps (pass t e) j m w)
  unfolding steps
  steps_dry zero j w h = refl
  steps_dry (suc m) j w h = ap (steps (pass false e) (suc j) m) (pass_dry j w h) ∙ steps_dry m (suc j) (pass t e j w) (placed_pass j w h)

  pub each_dry : (j n : ℕ) (w : Passing) → Placed ns w.numbers → each (pass false e) j n (with_numbers ns w) ≡ with_numbers ns (each (pass t e) j n w)
  unfolding each
  each_dry j n w h = steps_dry (n - j) j w h

  pub each_placed : (j n : ℕ) (w : Passing) → Placed ns w.numbers → Placed ns (each (pass t e) j n w).numbers
  each_placed j n w h = each_ind (pass t e) (λ v. Placed ns v.numbers) j n (λ i v a b p. placed_pass i v p) w h

-- ---- at the ends: the run t, and a run u that has other lists and other numbers, as long as their places agree
module _ (t u : Bool) (st : List ℕ) (list numbers : List ℕ → List ℕ)
    (adds : (l : List ℕ) (q : ℕ) → list l ++ (q ∷ []) ≡ list (l ++ (q ∷ [])))
    (carries : (ns : List ℕ) (p q : ℕ) → carried_if u (numbers ns) p q ≡ numbers (carried_if t ns p q)) where
  abbrev other : Ending → Ending
  other w = record { lo = w.lo; n = w.n; lost = list w.lost; numbers = numbers w.numbers }

  abbrev Agree : Ending → Type 0
  Agree w = Placed (numbers w.numbers) w.numbers

  off_agree : (lo p q : ℕ) (w : Ending) → Agree w → Agree (off t lo p q w)
  off_agree lo p q w h a b = ap (λ (ns : List ℕ). same_place ns a b) (sym (carries w.numbers p q))
      ∙ kept_place u (numbers w.numbers) p q a b ∙ h a b ∙ sym (kept_place t w.numbers p q a b)

  turn_agree : (w : Ending) → Agree w → Agree (end_turn t st w)
  unfolding off_front off_back
  turn_agree w h = turn_ind Agree t st (λ v s p. off_agree (v.lo + 1) (last_of st v) (first_of st v) v p)
      (λ v s p. off_agree v.lo (before_last st v) (last_of st v) v p) w h

  off_other : (lo p q : ℕ) (w : Ending) → off u lo p q (other w) ≡ other (off t lo p q w)
  off_other lo p q w = ap₂ (λ (l ns : List ℕ). record { lo = lo; n = w.n - 1; lost = l; numbers = ns }) (adds w.lost q) (carries w.numbers p q)

  front_other : (w : Ending) → off_front u st (other w) ≡ other (off_front t st w)
  unfolding off_front
  front_other w = off_other (w.lo + 1) (last_of st w) (first_of st w) w

  back_other : (w : Ending) → off_back u st (other w) ≡ other (off_back t st w)
  unfolding off_back
  back_other w = off_other w.lo (before_last st w) (last_of st w) w

  turn_other : (w : Ending) → Agree w → end_turn u st (other w) ≡ other (end_turn t st w)
  turn_other w h =
      let v = other w in
      let near = h (before_last st w) (first_of st w) in
      let last = h (last_of st w) (first_of st w) in
      let two = h (last_of st w) (after_first st w) in
      by_test (ltb w.n 3)
      (λ q. turn_few u st v q ∙ ap other (sym (turn_few t st w q)))
      (λ q. by_test (is_near st w)
      (λ a. turn_near u st v q (near ∙ a) ∙ ap (off_front u st) (back_other w) ∙ front_other (off_back t st w) ∙ ap other (sym (turn_near t st w q a)))
      (λ a. by_test (is_last st w)
      (λ b. turn_last u st v q (near ∙ a) (last ∙ b) ∙ front_other w ∙ ap other (sym (turn_last t st w q a b)))
      (λ b. by_test (is_last_two st w)
      (λ c. turn_last_two u st v q (near ∙ a) (last ∙ b) (two ∙ c) ∙ ap (off_front u st) (front_other w) ∙ front_other (off_front t st w)
      ∙ ap other (sym (turn_last_two t st w q a b c)))
      (λ c. turn_none u st v q (near ∙ a) (last ∙ b) (two ∙ c) ∙ ap other (sym (turn_none t st w q a b c))))))

  turns_other : (k : ℕ) (w : Ending) → Agree w → times (end_turn u st) k (other w) ≡ other (times (end_turn t st) k w)
  unfolding times
  turns_other zero w h = refl
  turns_other (suc k) w h = ap (times (end_turn u st) k) (turn_other w h) ∙ turns_other k (end_turn t st w) (turn_agree w h)

pub turns_dry : (ns : List ℕ) (t : Bool) (st : List ℕ) (k : ℕ) (w : Ending) → Placed ns w.numbers
    → times (end_turn false st) k (ends_with ns w) ≡ ends_with ns (times (end_turn t st) k w)
unfolding ends_with carried_if
turns_dry ns t st k w h = turns_other t false st (λ l. l) (λ ms. ns) (λ l q. refl) (λ ms p q. refl) k w h

pub turns_behind : (t : Bool) (st l : List ℕ) (k : ℕ) (w : Ending) → times (end_turn t st) k (behind l w) ≡ behind l (times (end_turn t st) k w)
unfolding behind
turns_behind t st l k w = turns_other t t st (λ m. l ++ m) (λ ns. ns) (λ m q. append_assoc l m (q ∷ [])) (λ ns p q. refl) k w (λ a b. refl)
