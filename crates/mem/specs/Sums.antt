-- A sum by places is the sum of the list: what the rules write as a loop over a list's places, and std as `sum_by`. Assumes nothing.
-- Key: `over_sum`.
use Rattle.std.specs.Prelude.{◌≡◌, List, [], ◌∷◌, ℕ, zero, suc, ◌+◌, ◌-◌, length, get_or, sum_by}
use Rattle.std.proofs.Math.Path.{refl}
use Rattle.std.proofs.Common.{ap, arith}
use Rattle.std.proofs.lemmas.List.Recursion.{is_sum_by}
use Rattle.mem.specs.Loops.{over, run}

run_shift : (g : ℕ → ℕ) (i m : ℕ) → run 0 ◌+◌ g (suc i) m ≡ run 0 ◌+◌ (λ k. g (suc k)) i m
unfolding run
run_shift g i zero = refl
run_shift g i (suc m) = ap (λ (n : ℕ). g (suc i) + n) (run_shift g (suc i) m)

run_step : (f : ℕ → ℕ) (x : ℕ) (xs : List ℕ) → run 0 ◌+◌ (λ k. f (get_or (x ∷ xs) k 0)) 0 (length (x ∷ xs)) ≡ f x + run 0 ◌+◌ (λ k. f (get_or xs k 0)) 0 (length xs)
unfolding run
run_step f x xs = ap (λ (n : ℕ). f x + n) (run_shift (λ k. f (get_or (x ∷ xs) k 0)) 0 (length xs))

run_none : (f : ℕ → ℕ) → run 0 ◌+◌ (λ k. f (get_or [] k 0)) 0 0 ≡ 0
unfolding run
run_none f = refl

pub over_sum : (f : ℕ → ℕ) (xs : List ℕ) → over 0 ◌+◌ (λ k. f (get_or xs k 0)) 0 (length xs) ≡ sum_by f xs
unfolding over
over_sum f xs =
    let e : length xs - 0 ≡ length xs = omega arith in
    rw e (is_sum_by (λ (l : List ℕ). run 0 ◌+◌ (λ k. f (get_or l k 0)) 0 (length l)) f (run_none f) (run_step f) xs)
