-- A search for the lowest number that passes a test, as a loop from 0 up makes it: what it finds is the lowest, and the lowest is what it finds.
-- Assumes nothing.
-- Key: `first_found`, `first_none`: what is known of what is found, and where nothing is; `first_is`, `first_no`: the other way round.
use Prim.Native.Nat.{ℕ, zero, suc, ◌+◌, ◌-◌, ◌≤◌, ◌<◌}
use native.Mathlib.Omega.{arith}
use Rattle.std.specs.Prelude.{◌≡◌, refl, Bool, true, Option, Some, None}
use Rattle.std.proofs.Common.{sym, ◌∙◌, ap, subst, true≢false}
use Rattle.std.proofs.Math.Bool.{false}
use Rattle.std.proofs.Math.Logic.{⊎_elim}
use Rattle.mem.specs.Loops.{over, run}
use Rattle.mem.specs.Cases.{lt_or_le, by_test}
use Rattle.rules.specs.Lists.{when, or_else}
use Rattle.laws.specs.Lowest.{first, Lowest}

-- what a search from i up to n comes to
data Sought (test : ℕ → Bool) (i n : ℕ) : Option ℕ → Type 0 where
  one : (k : ℕ) → Lowest test i n k → Sought test i n (Some k)
  no_one : ((k : ℕ) → i ≤ k → k < n → test k ≡ false) → Sought test i n None

module _ (test : ℕ → Bool) where
  -- i passes, or it doesn't
  here : (i m : ℕ) (r : Option ℕ) → test i ≡ true → Sought test i (i + suc m) (or_else (when (test i) i) r)
  unfolding or_else when
  here i m r e = rw e (one i (record { low = omega arith; high = omega arith; is = e; before = λ j a b. absurd (omega arith) }))

  later : (i m : ℕ) (r : Option ℕ) → test i ≡ false → Sought test (suc i) (suc i + m) r → Sought test i (i + suc m) (or_else (when (test i) i) r)
  unfolding or_else when
  later i m r e s = rw e (go s)
    where
      same : (j : ℕ) → i ≤ j → (i < j → test j ≡ false) → test j ≡ false
      same j h f = ⊎_elim f (λ (c : j ≤ i). let s : j ≡ i = omega arith in rw s e) (lt_or_le i j)

      go : {r : Option ℕ} → Sought test (suc i) (suc i + m) r → Sought test i (i + suc m) r
      go (one k l) = one k (record {
        low = omega (arith, l.low);
        high = omega (arith, l.high);
        is = l.is;
        before = λ j a b. same j a (λ (c : i < j). l.before j c b);
      })
      go (no_one f) = no_one (λ k a b. same k a (λ (c : i < k). f k c (omega arith)))

  run_sought : (m i : ℕ) → Sought test i (i + m) (run None or_else (λ k. when (test k) k) i m)
  unfolding run
  run_sought zero i = no_one (λ k a b. absurd (omega arith))
  run_sought (suc m) i = let rest = run None or_else (λ k. when (test k) k) (suc i) m in
      by_test (test i) (here i m rest) (λ q. later i m rest q (run_sought m (suc i)))

  module _ (n : ℕ) where
    sought : Sought test 0 n (first test n)
    unfolding over
    sought = let e : 0 + (n - 0) ≡ n = omega arith in rw e at (run_sought (n - 0) 0)

    the_one : {k : ℕ} → Sought test 0 n (Some k) → Lowest test 0 n k
    the_one (one k l) = l

    none_of : Sought test 0 n None → (k : ℕ) → k < n → test k ≡ false
    none_of (no_one f) k h = f k (omega arith) h

    pub first_found : (k : ℕ) → first test n ≡ Some k → Lowest test 0 n k
    first_found k e = the_one (subst (Sought test 0 n) e sought)

    pub first_none : first test n ≡ None → (k : ℕ) → k < n → test k ≡ false
    first_none e = none_of (subst (Sought test 0 n) e sought)

    -- there is just one lowest
    is_the_one : {r : Option ℕ} (k : ℕ) → Lowest test 0 n k → Sought test 0 n r → r ≡ Some k
    is_the_one k h (no_one f) = absurd (true≢false (sym h.is ∙ f k (omega arith) h.high))
    is_the_one k h (one j l) = ⊎_elim
        (λ (a : j < k). absurd (true≢false (sym l.is ∙ h.before j (omega arith) a)))
        (λ (a : k ≤ j). ⊎_elim
        (λ (b : k < j). absurd (true≢false (sym h.is ∙ l.before k (omega arith) b)))
        (λ (b : j ≤ k). let e : j ≡ k = omega arith in ap Some e)
        (lt_or_le k j))
        (lt_or_le j k)

    is_none : {r : Option ℕ} → ((k : ℕ) → k < n → test k ≡ false) → Sought test 0 n r → r ≡ None
    is_none f (one k l) = absurd (true≢false (sym l.is ∙ f k l.high))
    is_none f (no_one g) = refl

    pub first_is : (k : ℕ) → k < n → test k ≡ true → ((j : ℕ) → j < k → test j ≡ false) → first test n ≡ Some k
    first_is k h e f = is_the_one k (record { low = omega arith; high = h; is = e; before = λ j a b. f j b }) sought

    pub first_no : ((k : ℕ) → k < n → test k ≡ false) → first test n ≡ None
    first_no f = is_none f sought

-- what was found, with the equation
pub by_found : {P : Type 0} (r : Option ℕ) → ((k : ℕ) → r ≡ Some k → P) → (r ≡ None → P) → P
by_found (Some k) f g = f k refl
by_found None f g = g refl
