-- Request 12, as the code has it: once all numbers are passed, the two ends of the stack st. What is left are n of its numbers, from lo on. Assumes nothing.
-- Key: `end_turn`, with its cases `turn_few` to `turn_none`; `turn_ind`: what a loss at either end keeps, a turn keeps; `turn_still`, `turns_grow`.
use Rattle.std.specs.Prelude.{ℕ, ◌+◌, ◌-◌, ◌≤◌, ◌<◌, ◌≡◌, Bool, true, false, ◌⊎◌, List, [], ◌∷◌, ltb, length}
use Rattle.std.proofs.Common.{arith, ap, inl, inr, ⊎_elim, length-append}
use Rattle.std.proofs.Math.Path.{refl}
use borrow.Author.Tests.{ltb-false}
use Rattle.mem.specs.Cases.{by_test}
use Rattle.mem.specs.Loops.{times, times_ind}
use Rattle.laws.specs.MendEnds.{Ending, first_of, last_of, is_near, is_last, is_last_two, off_front, off_back, end_turn}

-- ---- one turn, by what applies at the ends

module _ (writes : Bool) (st : List ℕ) (w : Ending) where
  pub turn_few : ltb w.n 3 ≡ true → end_turn writes st w ≡ w
  unfolding end_turn
  turn_few e = rw (e, end_turn) refl

  module _ (e : ltb w.n 3 ≡ false) where
    pub turn_near : is_near st w ≡ true → end_turn writes st w ≡ off_front writes st (off_back writes st w)
    unfolding end_turn
    turn_near a = rw (e, end_turn, a) refl

    module _ (a : is_near st w ≡ false) where
      pub turn_last : is_last st w ≡ true → end_turn writes st w ≡ off_front writes st w
      unfolding end_turn
      turn_last b = rw (e, end_turn, a, b) refl

      module _ (b : is_last st w ≡ false) where
        pub turn_last_two : is_last_two st w ≡ true → end_turn writes st w ≡ off_front writes st (off_front writes st w)
        unfolding end_turn
        turn_last_two c = rw (e, end_turn, a, b, c) refl

        pub turn_none : is_last_two st w ≡ false → end_turn writes st w ≡ w
        unfolding end_turn
        turn_none c = rw (e, end_turn, a, b, c) refl

-- ---- what a loss at either end keeps, a turn keeps
module _ (P : Ending → Type 0) (t : Bool) (st : List ℕ)
    (front : (w : Ending) → 1 ≤ w.n → P w → P (off_front t st w)) (back : (w : Ending) → 2 ≤ w.n → P w → P (off_back t st w)) where
  pub turn_ind : (w : Ending) → P w → P (end_turn t st w)
  unfolding off_front off_back
  turn_ind w p =
      by_test (ltb w.n 3)
      (λ q. rw (turn_few t st w q) p)
      (λ q. let three = ltb-false w.n 3 q in
      by_test (is_near st w)
      (λ a. rw (turn_near t st w q a) (front (off_back t st w) (omega arith) (back w (omega arith) p)))
      (λ a. by_test (is_last st w)
      (λ b. rw (turn_last t st w q a b) (front w (omega arith) p))
      (λ b. by_test (is_last_two st w)
      (λ c. rw (turn_last_two t st w q a b c) (front (off_front t st w) (omega arith) (front w (omega arith) p)))
      (λ c. rw (turn_none t st w q a b c) p))))

-- a turn that leaves as many is none
pub turn_still : (t : Bool) (st : List ℕ) (w : Ending) → (end_turn t st w).n ≡ w.n → end_turn t st w ≡ w
unfolding off_front off_back
turn_still t st w e = ⊎_elim (λ (s : end_turn t st w ≡ w). s) (λ (h : (end_turn t st w).n < w.n). absurd (omega arith))
    (turn_ind (λ (v : Ending). (v ≡ w) ⊎ (v.n < w.n)) t st (λ v h p. inr (less v h p)) (λ v h p. inr (less v (omega arith) p)) w (inl refl))
  where
    less : (v : Ending) → 1 ≤ v.n → (v ≡ w) ⊎ (v.n < w.n) → v.n - 1 < w.n
    less v h (inl p) = omega (arith, ap (λ (u : Ending). u.n) p)
    less v h (inr p) = omega arith

-- each point that goes is on the list
pub turn_count : (t : Bool) (st : List ℕ) (w : Ending) → (end_turn t st w).n + length (end_turn t st w).lost ≡ w.n + length w.lost
unfolding off_front off_back
turn_count t st w =
    let Whole : Ending → Type 0 = λ v. v.n + length v.lost ≡ w.n + length w.lost in
    turn_ind Whole t st
    (λ v h (p : Whole v). omega (arith, length-append v.lost (first_of st v ∷ [])))
    (λ v h (p : Whole v). omega (arith, length-append v.lost (last_of st v ∷ [])))
    w refl

-- the list never shrinks
pub turns_grow : (t : Bool) (st : List ℕ) (k : ℕ) (w : Ending) → length w.lost ≤ length (times (end_turn t st) k w).lost
unfolding off_front off_back
turns_grow t st k w =
    let Longer : Ending → Type 0 = λ v. length w.lost ≤ length v.lost in
    times_ind (end_turn t st) Longer
    (turn_ind Longer t st
    (λ v h (p : Longer v). omega (arith, length-append v.lost (first_of st v ∷ [])))
    (λ v h (p : Longer v). omega (arith, length-append v.lost (last_of st v ∷ []))))
    k w (omega arith)
