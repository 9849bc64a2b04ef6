-- What `all`, `any` and `find` give, of the words of a slice and of the numbers below n, in the words of the rules. Assumes nothing.
use Rattle.std.specs.Prelude.{Option, Some, None}
use Rattle.std.specs.Option.{MatchOption}
use Rattle.std.specs.List.{list_all, list_any, range_with_len}
use mathlib.Core.Path.{◌≡◌, refl, sym, ap, subst, ◌∙◌}
use mathlib.Core.Bool.{Bool, true, false, not, ◌&&◌, ◌||◌}
use mathlib.Core.List.{List}
use Prim.Native.Nat.{ℕ, zero, suc, ◌+◌, ◌-◌, ◌≤◌, ◌<◌}
use native.Mathlib.Numerals.{add-one}
use native.Mathlib.Omega.{arith}
use lib.ListN.{length, get_or, take}
use Rattle.mem.specs.Slice.{view, view_cons}
use Rattle.mem.specs.Loops.{Left, turn, next, end, run, over}
use Rattle.rules.specs.Lists.{when, or_else}
use Rattle.rules.specs.Handed.{all_of, any_of, first_fault}

-- ---- what `find` gives over the numbers below n

module _ (test : ℕ → Bool) (n : ℕ) where
  none_before : (i : ℕ) → i ≤ n → ((k : ℕ) → 0 ≤ k → k < i → test k ≡ false)
      → Left None or_else (λ i. when (test i) i) (λ f. f) (over None or_else (λ i. when (test i) i) 0 n) n i
  unfolding when or_else
  none_before zero h e = record { same = refl }
  none_before (suc i) h e =
      subst (Left None or_else (λ i. when (test i) i) (λ f. f) (over None or_else (λ i. when (test i) i) 0 n) n) (add-one i)
      (next (none_before i (omega arith) (λ k a b. e k a (omega arith))) (omega arith) (λ r. rw (e i (omega arith) (omega arith)) refl))

  pub first_is : (r : Option ℕ)
      → MatchOption r ((k : ℕ) → 0 ≤ k → k < n → test k ≡ false)
      (λ i. (0 ≤ i) × (i < n) × (test i ≡ true) × ((k : ℕ) → 0 ≤ k → k < i → test k ≡ false))
      → r ≡ over None or_else (λ i. when (test i) i) 0 n
  unfolding when or_else
  first_is None h = sym (end (none_before n (omega arith) h) (omega arith))
  first_is (Some i) h = sym (turn (none_before i (omega (arith, h.1)) h.3) h.1 ∙ rw h.2 refl)

pub first_found : (good : ℕ → Bool) (n : ℕ) (r : Option ℕ)
    → MatchOption r ((k : ℕ) → 0 ≤ k → k < n → not (good k) ≡ false)
    (λ i. (0 ≤ i) × (i < n) × (not (good i) ≡ true) × ((k : ℕ) → 0 ≤ k → k < i → not (good k) ≡ false))
    → r ≡ first_fault good n
unfolding first_fault
first_found good n r h = first_is (λ k. not (good k)) n r h

-- ---- what `all` gives over a part of a slice

pub all_in : (test : ℕ → Bool) (ws : List ℕ) (a m : ℕ) → a + m ≤ length ws → list_all test (view ws a m) ≡ run true ◌&&◌ (λ k. test (get_or ws k 0)) a m
unfolding run
all_in test ws a zero h = refl
all_in test ws a (suc m) h = rw (view_cons ws a m 0 (omega arith), all_in test ws (suc a) m (omega arith)) refl

pub all_from : (test : ℕ → Bool) (ws : List ℕ) (a : ℕ) → a ≤ length ws
    → list_all test (view ws a (length ws - a)) ≡ all_of (λ k. test (get_or ws k 0)) a (length ws)
unfolding all_of over
all_from test ws a h = all_in test ws a (length ws - a) (omega arith)

pub all_taken : (test : ℕ → Bool) (ws : List ℕ) (n : ℕ) → n ≤ length ws → list_all test (take n ws) ≡ all_of (λ k. test (get_or ws k 0)) 0 n
unfolding all_of over
all_taken test ws n h = all_in test ws 0 n (omega arith) ∙ ap (run true ◌&&◌ (λ k. test (get_or ws k 0)) 0) (omega arith)

-- ---- what `all` and `any` give over the numbers below n

run_all : (test : ℕ → Bool) (a n : ℕ) → list_all test (range_with_len a n) ≡ run true ◌&&◌ test a n
unfolding run
run_all test a zero = refl
run_all test a (suc n) = rw (add-one, run_all test (suc a) n) refl

pub all_numbers : (test : ℕ → Bool) (n : ℕ) → list_all test (range_with_len 0 n) ≡ all_of test 0 n
unfolding all_of over
all_numbers test n = run_all test 0 n ∙ ap (run true ◌&&◌ test 0) (omega arith)

run_any : (test : ℕ → Bool) (a n : ℕ) → list_any test (range_with_len a n) ≡ run false ◌||◌ test a n
unfolding run
run_any test a zero = refl
run_any test a (suc n) = rw (add-one, run_any test (suc a) n) refl

pub any_numbers : (test : ℕ → Bool) (n : ℕ) → list_any test (range_with_len 0 n) ≡ any_of test 0 n
unfolding any_of over
any_numbers test n = run_any test 0 n ∙ ap (run false ◌||◌ test 0) (omega arith)
