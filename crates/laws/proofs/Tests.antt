-- Tests on all numbers from a up to n, on any of them, and the first number at fault. Assumes nothing.
-- Key: `all_of_lem`, `all_true`; `any_of_lem`, `any_true`; `no_fault`, `fault_none`.
use Rattle.std.specs.Prelude.{ℕ, zero, suc, ◌+◌, ◌-◌, ◌≤◌, ◌<◌, ◌≡◌, refl, Bool, true, false, not, ◌&&◌, ◌||◌, None}
use Rattle.std.proofs.Common.{arith, ap, ⊎_elim}
use Rattle.std.proofs.lemmas.Bool.{not-false}
use Rattle.ints.specs.Bools.{and_left, and_right}
use Rattle.mem.specs.Cases.{lt_or_le}
use Rattle.mem.specs.Loops.{run, over, over_ind}
use Rattle.rules.specs.Handed.{all_of, any_of, first_fault}
use Rattle.laws.proofs.Lowest.{first_none, first_no}
use Rattle.laws.specs.Tests.{One}

-- ---- tests on all numbers, and on any

pub and_both : (a b : Bool) → a ≡ true → b ≡ true → (a && b) ≡ true
and_both a b e f = rw (e, f) refl

pub all_of_lem : (test : ℕ → Bool) (a n : ℕ) → ((k : ℕ) → a ≤ k → k < n → test k ≡ true) → all_of test a n ≡ true
unfolding all_of
all_of_lem test a n h = over_ind true ◌&&◌ test (λ (x : Bool). x ≡ true) refl and_both a n h

pub run_all : (test : ℕ → Bool) (m a : ℕ) → run true ◌&&◌ test a m ≡ true → (k : ℕ) → a ≤ k → k < a + m → test k ≡ true
unfolding run
run_all test zero a e k h l = absurd (omega arith)
run_all test (suc m) a e k h l = ⊎_elim
    (λ (q : a < k). run_all test m (suc a) (and_right (test a) (run true ◌&&◌ test (suc a) m) e) k q (omega arith))
    (λ (q : k ≤ a). let x : k ≡ a = omega arith in rw x (and_left (test a) (run true ◌&&◌ test (suc a) m) e))
    (lt_or_le a k)

pub all_true : (test : ℕ → Bool) (a n : ℕ) → all_of test a n ≡ true → (k : ℕ) → a ≤ k → k < n → test k ≡ true
unfolding all_of over
all_true test a n e k h l = run_all test (n - a) a e k h (omega arith)

pub or_any : (a b : Bool) → a ≡ true → (a || b) ≡ true
or_any a b e = rw e refl

pub or_rest : (a b : Bool) → b ≡ true → (a || b) ≡ true
or_rest true b e = refl
or_rest false b e = e

run_any : (test : ℕ → Bool) (m a k : ℕ) → a ≤ k → k < a + m → test k ≡ true → run false ◌||◌ test a m ≡ true
unfolding run
run_any test zero a k h l t = absurd (omega arith)
run_any test (suc m) a k h l t = ⊎_elim
    (λ (q : a < k). or_rest (test a) (run false ◌||◌ test (suc a) m) (run_any test m (suc a) k q (omega arith) t))
    (λ (q : k ≤ a). let x : a ≡ k = omega arith in or_any (test a) (run false ◌||◌ test (suc a) m) (rw x t))
    (lt_or_le a k)

pub any_of_lem : (test : ℕ → Bool) (n k : ℕ) → k < n → test k ≡ true → any_of test 0 n ≡ true
unfolding any_of over
any_of_lem test n k h t = run_any test (n - 0) 0 k (omega arith) (omega arith) t

run_one : (test : ℕ → Bool) (m a : ℕ) → run false ◌||◌ test a m ≡ true → One test (a + m)
unfolding run
run_one test zero a e = let z : ◌≡◌ {A = ℕ} 0 1 = cc in absurd (omega arith)
run_one test (suc m) a e = go (test a) refl e (run_one test m (suc a))
  where
    go : (t : Bool) → test a ≡ t → (t || run false ◌||◌ test (suc a) m) ≡ true
        → (run false ◌||◌ test (suc a) m ≡ true → One test (suc a + m)) → One test (a + suc m)
    go true q e f = record { k = a; below = omega arith; holds = q }
    go false q e f = let o = f e in record { k = o.k; below = omega (arith, o.below); holds = o.holds }

pub any_true : (test : ℕ → Bool) (n : ℕ) → any_of test 0 n ≡ true → One test n
unfolding any_of over
any_true test n e = let o = run_one test (n - 0) 0 e in record { k = o.k; below = omega (arith, o.below); holds = o.holds }

-- ---- nothing is at fault

pub no_fault : (good : ℕ → Bool) (n : ℕ) → ((i : ℕ) → i < n → good i ≡ true) → first_fault good n ≡ None
unfolding first_fault
no_fault good n h = first_no (λ k. not (good k)) n (λ k l. ap not (h k l))

pub fault_none : (good : ℕ → Bool) (n : ℕ) → first_fault good n ≡ None → (i : ℕ) → i < n → good i ≡ true
unfolding first_fault
fault_none good n e i h = not-false (good i) (first_none (λ k. not (good k)) n e i h)
