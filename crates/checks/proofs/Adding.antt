-- The sums over the lengths: a sum by places is the sum of the list, and as no contour adds more than its length, which 32 bits hold, 65,535 of them don't
-- wrap. Assumes nothing.
use Rattle.std.specs.Prelude.{sum_by}
use Rattle.std.proofs.lemmas.List.Elements.{All-from_get_or}
use Rattle.std.proofs.lemmas.List.Sums.{sum_by-le}
use mathlib.Core.Path.{◌≡◌, sym, ◌∙◌}
use mathlib.Core.List.{List}
use Prim.Native.Nat.{ℕ, ◌^◌, ◌≤◌, ◌<◌}
use native.Mathlib.Omega.{arith}
use lib.Dec.{leb}
use lib.ListN.{length, get_or}
use Rattle.ints.specs.Bools.{cond_ind}
use Rattle.mem.specs.Sums.{over_sum}
use Rattle.rules.specs.Job.{sum_over}
use Rattle.checks.specs.Sums.{points_of, triangles_of, Total}

-- what a contour adds is no more than its length
pub points_most : (n : ℕ) → points_of n ≤ n
unfolding points_of
points_most n = cond_ind (λ (k : ℕ). k ≤ n) (leb 3 n) (omega arith) (omega arith)

pub triangles_most : (n : ℕ) → triangles_of n ≤ n
unfolding triangles_of
triangles_most n = cond_ind (λ (k : ℕ). k ≤ n) (leb 3 n) (omega arith) (omega arith)

module _ (f : ℕ → ℕ) (most : (n : ℕ) → f n ≤ n) (ls : List ℕ) (few : length ls ≤ 65535) (fits : (i : ℕ) → get_or ls i 0 < 2 ^ 32) where
  pub sum_small : sum_by f ls < 2 ^ 48
  sum_small =
      let each : (i : ℕ) → i < length ls → f (get_or ls i 0) ≤ 4294967295 = λ i h. omega (arith, most (get_or ls i 0), fits i) in
      let whole = sum_by-le f 4294967295 ls (All-from_get_or (λ (n : ℕ). f n ≤ 4294967295) ls 0 each) in
      omega (arith, whole)

  pub sum_in_range : sum_by f ls < 2 ^ 64
  sum_in_range = omega (arith, sum_small)

  pub totalled : {r : ℕ} → r ≡ sum_by f ls → Total (sum_over f ls) r
  unfolding sum_over
  totalled e = record { is = e ∙ sym (over_sum f ls); small = rw e sum_small }
