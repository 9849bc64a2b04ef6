-- The shapes of loops, each with the law of a turn, the law of its end, and what its turns keep.
-- `over z op f i n`: `f i`, `f (i + 1)`, .. up to `f (n - 1)`, joined by op from the right, with z at the end. What a loop over i..n finds, sums or
-- collects is an instance: `over false or`, `over 0 ◌+◌`, `over [] ◌++◌`, `over None or_else`.
-- `each step i n s`: the state s after `step i`, `step (i + 1)`, .. up to `step (n - 1)`.
-- `times n turn s`: the state s after n turns.
-- Assumes nothing.
use Rattle.std.specs.Prelude.{◌≡◌}
use Rattle.std.proofs.Math.Path.{refl, ap, subst}
use Rattle.std.proofs.Common.{sym, ◌∙◌, suc-mul, mul-le-mul_right, le_trans, add-one}
use Prim.Native.Nat.{ℕ, zero, suc, ◌+◌, ◌-◌, ◌≤◌, ◌<◌, ◌*◌}
use native.Mathlib.Omega.{arith}

module _ {A : Type 0} (z : A) (op : A → A → A) (f : ℕ → A) where
  unfoldable pub run : ℕ → ℕ → A
  run i zero = z
  run i (suc m) = op (f i) (run (suc i) m)

  unfoldable pub over : ℕ → ℕ → A
  over i n = run i (n - i)

  -- the loop's turn, in the loop's form
  pub over_turn : (i n : ℕ) → i < n → over i n ≡ op (f i) (over (i + 1) n)
  unfolding over run
  over_turn i n h = let p : n - i ≡ suc (n - suc i) = omega arith in rw (p, add-one) refl

  pub over_end : (i n : ℕ) → n ≤ i → over i n ≡ z
  unfolding over run
  over_end i n h = let p : n - i ≡ 0 = omega arith in rw p refl

-- The invariant of a loop over i..n whose answer is that of the rest: `whole` is the answer of all, k what the loops around it still do with this loop's answer
pub record Left {A : Type 0} (z : A) (op : A → A → A) (f : ℕ → A) (k : A → A) (whole : A) (n i : ℕ) : Type 0 where
  pub same : whole ≡ k (over z op f i n)

module _ {A : Type 0} {z : A} {op : A → A → A} {f : ℕ → A} {k : A → A} {whole : A} {n i : ℕ} (l : Left z op f k whole n i) where
  pub turn : i < n → whole ≡ k (op (f i) (over z op f (i + 1) n))
  turn h = l.same ∙ ap k (over_turn z op f i n h)

  -- a turn that finds nothing
  pub next : i < n → ((r : A) → op (f i) r ≡ r) → Left z op f k whole n (i + 1)
  next h e = record { same = turn h ∙ ap k (e (over z op f (i + 1) n)) }

  pub end : n ≤ i → whole ≡ k z
  end h = l.same ∙ ap k (over_end z op f i n h)

-- block i of n blocks of k words lies within m words
pub block_fits : (i n k m : ℕ) → i < n → n * k ≤ m → i * k + k ≤ m
block_fits i n k m h f = rw (← suc-mul i k) (le_trans (mul-le-mul_right k h) f)

module _ {A : Type 0} (z : A) (op : A → A → A) (f g : ℕ → A) where
  run_cong : (m i : ℕ) → ((j : ℕ) → i ≤ j → j < i + m → f j ≡ g j) → run z op f i m ≡ run z op g i m
  unfolding run
  run_cong zero i h = refl
  run_cong (suc m) i h = rw (h i (omega arith) (omega arith), run_cong m (suc i) (λ j a b. h j (omega arith) (omega arith)))

  -- what is found depends on what f says from i up to n alone
  pub over_cong : (i n : ℕ) → ((j : ℕ) → i ≤ j → j < n → f j ≡ g j) → over z op f i n ≡ over z op g i n
  unfolding over
  over_cong i n h = run_cong (n - i) i (λ j a b. h j a (omega arith))

module _ {A : Type 0} (z : A) (op : A → A → A) (f : ℕ → A) (P : A → Type 0) (none : P z) (join : (a b : A) → P a → P b → P (op a b)) where
  run_ind : (m i : ℕ) → ((j : ℕ) → i ≤ j → j < i + m → P (f j)) → P (run z op f i m)
  unfolding run
  run_ind zero i h = none
  run_ind (suc m) i h = join (f i) (run z op f (suc i) m) (h i (omega arith) (omega arith)) (run_ind m (suc i) (λ j a b. h j (omega arith) (omega arith)))

  -- what holds of the end, of each f j, and is kept by op, holds of the whole
  pub over_ind : (i n : ℕ) → ((j : ℕ) → i ≤ j → j < n → P (f j)) → P (over z op f i n)
  unfolding over
  over_ind i n h = run_ind (n - i) i (λ j a b. h j a (omega arith))

-- `each step i n s`: the state s after `step i`, `step (i + 1)`, .. up to `step (n - 1)`. What a loop over i..n that changes its state at each turn leaves
module _ {S : Type 0} (step : ℕ → S → S) where
  unfoldable pub steps : ℕ → ℕ → S → S
  steps i zero s = s
  steps i (suc m) s = steps (suc i) m (step i s)

  unfoldable pub each : ℕ → ℕ → S → S
  each i n s = steps i (n - i) s

  pub each_turn : (i n : ℕ) (s : S) → i < n → each i n s ≡ each (i + 1) n (step i s)
  unfolding each steps
  each_turn i n s h = let p : n - i ≡ suc (n - suc i) = omega arith in rw (p, add-one) refl

  pub each_end : (i n : ℕ) (s : S) → n ≤ i → each i n s ≡ s
  unfolding each steps
  each_end i n s h = let p : n - i ≡ 0 = omega arith in rw p refl

  -- what every step keeps, all of them keep
  steps_kept : {B : Type 0} (P : S → B) → ((i : ℕ) (s : S) → P (step i s) ≡ P s) → (m i : ℕ) (s : S) → P (steps i m s) ≡ P s
  unfolding steps
  steps_kept P h zero i s = refl
  steps_kept P h (suc m) i s = steps_kept P h m (suc i) (step i s) ∙ h i s

  pub each_kept : {B : Type 0} (P : S → B) → ((i : ℕ) (s : S) → P (step i s) ≡ P s) → (i n : ℕ) (s : S) → P (each i n s) ≡ P s
  unfolding each
  each_kept P h i n s = steps_kept P h (n - i) i s

-- steps that say the same leave the same
module _ {S : Type 0} (step turn : ℕ → S → S) (alike : (i : ℕ) (s : S) → step i s ≡ turn i s) where
  steps_cong : (m i : ℕ) (s : S) → steps step i m s ≡ steps turn i m s
  unfolding steps
  steps_cong zero i s = refl
  steps_cong (suc m) i s = steps_cong m (suc i) (step i s) ∙ ap (steps turn (suc i) m) (alike i s)

  pub each_cong : (i n : ℕ) (s : S) → each step i n s ≡ each turn i n s
  unfolding each
  each_cong i n s = steps_cong (n - i) i s

module _ {S : Type 0} (step : ℕ → S → S) (P : S → Type 0) where
  steps_ind : (m i : ℕ) → ((j : ℕ) (s : S) → i ≤ j → j < i + m → P s → P (step j s)) → (s : S) → P s → P (steps step i m s)
  unfolding steps
  steps_ind zero i h s p = p
  steps_ind (suc m) i h s p = steps_ind m (suc i) (λ j t a b q. h j t (omega arith) (omega arith) q) (step i s) (h i s (omega arith) (omega arith) p)

  -- what every step from i up to n keeps holds at the end
  pub each_ind : (i n : ℕ) → ((j : ℕ) (s : S) → i ≤ j → j < n → P s → P (step j s)) → (s : S) → P s → P (each step i n s)
  unfolding each
  each_ind i n h s p = steps_ind (n - i) i (λ j t a b q. h j t a (omega arith) q) s p

-- what is known at each place, step by step
module _ {S : Type 0} (step : ℕ → S → S) (P : ℕ → S → Type 0) (n : ℕ) (kept : (i : ℕ) (s : S) → i < n → P i s → P (suc i) (step i s)) where
  steps_at : (m i : ℕ) (s : S) → i + m ≡ n → P i s → P n (steps step i m s)
  unfolding steps
  steps_at zero i s h p = let e : i ≡ n = omega arith in subst (λ (k : ℕ). P k s) e p
  steps_at (suc m) i s h p = steps_at m (suc i) (step i s) (omega arith) (kept i s (omega arith) p)

  pub each_at : (s : S) → P 0 s → P n (each step 0 n s)
  unfolding each
  each_at s p = steps_at (n - 0) 0 s (omega arith) p

-- The invariant of such a loop: the rest of the steps from the state now give the whole
pub record Doing {S : Type 0} (step : ℕ → S → S) (whole : S) (n : ℕ) (s : S) (i : ℕ) : Type 0 where
  pub same : whole ≡ each step i n s

module _ {S : Type 0} {step : ℕ → S → S} {whole : S} {n : ℕ} {s : S} {i : ℕ} (d : Doing step whole n s i) where
  -- the turn leaves t, which is what the step says
  pub doing_more : {t : S} → i < n → t ≡ step i s → Doing step whole n t (i + 1)
  doing_more h e = record { same = d.same ∙ each_turn step i n s h ∙ ap (each step (i + 1) n) (sym e) }

  pub doing_end : n ≤ i → s ≡ whole
  doing_end h = sym (d.same ∙ each_end step i n s h)

-- ---- n turns that are all alike
module _ {S : Type 0} (turn : S → S) where
  unfoldable pub times : ℕ → S → S
  times zero s = s
  times (suc n) s = times n (turn s)

  pub times_end : (s : S) → times 0 s ≡ s
  unfolding times
  times_end s = refl

  pub times_turn : (n : ℕ) (s : S) → 0 < n → times n s ≡ times (n - 1) (turn s)
  unfolding times
  times_turn zero s h = absurd (omega arith)
  times_turn (suc n) s h = let p : suc n - 1 ≡ n = omega arith in rw p refl

  -- one turn more at the end
  pub times_last : (n : ℕ) (s : S) → times (suc n) s ≡ turn (times n s)
  unfolding times
  times_last zero s = refl
  times_last (suc n) s = times_last n (turn s)

  -- a state that a turn leaves as it is
  pub times_still : (n : ℕ) (s : S) → turn s ≡ s → times n s ≡ s
  unfolding times
  times_still zero s e = refl
  times_still (suc n) s e = ap (times n) e ∙ times_still n s e

  -- what each turn keeps
  pub times_ind : (P : S → Type 0) → ((s : S) → P s → P (turn s)) → (n : ℕ) (s : S) → P s → P (times n s)
  unfolding times
  times_ind P h zero s p = p
  times_ind P h (suc n) s p = times_ind P h n (turn s) (h s p)
