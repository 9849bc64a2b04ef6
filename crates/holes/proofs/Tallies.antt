-- How often a word stands in a list, as a sum of ones; and how many words stand there once, as a count of the words that pass a test. Assumes nothing.
use Rattle.std.specs.Prelude.{◌≡◌, List, ℕ, ◌≤◌, ◌<◌, length, eqb, cond, count_by, sum_by}
use Rattle.std.proofs.Math.Path.{refl}
use Rattle.std.proofs.Common.{sym, arith}
use Rattle.std.proofs.lemmas.List.Recursion.{is_sum_by}
use Rattle.std.proofs.lemmas.List.Elements.{All-from_get_or}
use Rattle.std.proofs.lemmas.List.Sums.{sum_by-le}
use lib.ListN.{get_or}
use Prim.Native.Nat.{◌^◌}
use Rattle.ints.specs.Bools.{cond_ind}
use Rattle.mem.specs.Sums.{over_sum}
use Rattle.rules.specs.Lists.{count}
use Rattle.rules.specs.Removal.{met_once}

-- what a word adds to how often v stands there
abbrev pub one_if : ℕ → ℕ → ℕ
one_if v x = cond (eqb x v) 1 0

one_most : (v x : ℕ) → one_if v x ≤ 1
one_most v x = cond_ind (λ (k : ℕ). k ≤ 1) (eqb x v) (omega arith) (omega arith)

pub ones_fit : (v : ℕ) (s : List ℕ) → length s < 2 ^ 64 → sum_by (one_if v) s < 2 ^ 64
ones_fit v s h = omega (arith, sum_by-le (one_if v) 1 s (All-from_get_or (λ (x : ℕ). one_if v x ≤ 1) s 0 (λ i l. one_most v (get_or s i 0))))

pub ones_are : (v : ℕ) (s : List ℕ) → sum_by (one_if v) s ≡ count v s
unfolding count
ones_are v s = sym (is_sum_by (count v) (one_if v) refl (λ x xs. refl) s)

pub once_is : (s : List ℕ) → count_by (λ (x : ℕ). eqb (count x s) 1) s ≡ met_once s
unfolding met_once
once_is s = sym (over_sum (λ (x : ℕ). cond (eqb (count x s) 1) 1 0) s)
