-- What is computed of the numbers in hand is the rules' of the job: each sum, search and list of least lengths is the same one. Assumes nothing.
use Rattle.std.specs.Prelude.{Option, Some, None, Result, Ok, Err, ⊤}
use mathlib.Core.Path.{◌≡◌, refl}
use mathlib.Core.Bool.{Bool, false, ◌&&◌, ◌||◌, and-true, and-false}
use mathlib.Core.List.{List}
use Prim.Native.Nat.{ℕ, ◌*◌, ◌≤◌, ◌<◌}
use native.Mathlib.Omega.{arith}
use lib.Dec.{ltb, eqb}
use lib.ListN.{length}
use borrow.Author.Tests.{le-leb, lt-leb}
use Rattle.rules.specs.Job.{Job, job_stride}
use Rattle.rules.specs.Checks.{refuse_if, refuse_at, check_nvp, counts_agree, check_v, first_short}
use Rattle.rules.specs.declared.Refusal.{Refusal}
use Rattle.rules.specs.declared.Refusal.TheVariants.{BadCornerLimit, HighCoordinate, BadFlag, TooManyVertices, ShortBuffer}
use Rattle.laws.specs.Checks.{Agreed}
use Rattle.laws.proofs.Checks.{T-below-V}
use Rattle.checks.specs.Sums.{sum_all, sum_v, sum_t, all_is, v_is, t_is}
use Rattle.checks.specs.Answers.{verdict_of, first_high_in, first_bad_flag_in, high_is, flag_is, least_of, least_is}
use Rattle.checks.proofs.Order.{high_check, flag_check, room_check}

-- what a search found, as a verdict
module _ (r : ℕ → Refusal) {f g : Option ℕ} (e : f ≡ g) where
  pub found_at : {k : ℕ} → f ≡ Some k → Err (r k) ≡ verdict_of (refuse_at r g)
  unfolding verdict_of refuse_at
  found_at q = rw (← e, q) refl

  pub found_none : f ≡ None → Ok tt ≡ verdict_of (refuse_at r g)
  unfolding verdict_of refuse_at
  found_none q = rw (← e, q) refl

module _ (j : Job) where
  -- 1
  pub limit_is : {nvp : ℕ} (bad : Bool) → j.nvp ≡ nvp → (ltb nvp 3 || ltb 12 nvp) ≡ bad → verdict_of (refuse_if bad (BadCornerLimit nvp)) ≡ verdict_of (check_nvp j)
  unfolding check_nvp
  limit_is bad e q = rw (e, q) refl

  -- 2: whether the counts agree
  pub too_many : 65535 < length j.lengths → false ≡ counts_agree j
  unfolding counts_agree
  too_many h = rw (lt-leb (length j.lengths) 65535 h) (simp and-false)

  pub agree_is : {n : ℕ} → n ≡ sum_all j.lengths → length j.lengths ≤ 65535
      → (eqb (length j.regions) (length j.lengths) && (eqb (length j.codes) (length j.lengths) && eqb (length j.numbers) (n * job_stride))) ≡ counts_agree j
  unfolding counts_agree
  agree_is e h = rw (le-leb (length j.lengths) 65535 h, e, all_is) (simp and-true)

  -- once they do: four numbers for each vertex that the lengths speak of
  pub numbers_fit : {n : ℕ} → Agreed j → n ≡ sum_all j.lengths → n * job_stride ≤ length j.numbers
  numbers_fit a e = omega (arith, a.numbers, all_is j)

  -- 3 and 4, of as many vertices as the lengths say
  module _ {n : ℕ} (e : n ≡ sum_all j.lengths) where
    pub high_says : {v : Result ⊤ Refusal} → v ≡ verdict_of (refuse_at HighCoordinate (first_high_in j.numbers n)) → v ≡ verdict_of (high_check j)
    high_says q = rw (high_is, all_is, ← e) q

    pub flags_say : {v : Result ⊤ Refusal} → v ≡ verdict_of (refuse_at BadFlag (first_bad_flag_in j.numbers n)) → v ≡ verdict_of (flag_check j)
    flags_say q = rw (flag_is, all_is, ← e) q

  -- 5
  pub many_is : {v : ℕ} {many : Result ⊤ Refusal} → v ≡ sum_v j.lengths → many ≡ verdict_of (refuse_if (ltb 65535 v) (TooManyVertices v)) → many ≡ verdict_of (check_v j)
  unfolding check_v
  many_is e q = rw (v_is, ← e) q

  -- 6
  module _ {v t : ℕ} (e : v ≡ sum_v j.lengths) (f : t ≡ sum_t j.lengths) where
    pub t_below : t ≤ v
    t_below = omega (arith, T-below-V j, v_is j, t_is j)

    pub room_is : (ls : List ℕ) {room : Result ⊤ Refusal} → room ≡ verdict_of (refuse_at ShortBuffer (first_short ls (least_of j.nvp v t))) → room ≡ verdict_of (room_check j ls)
    room_is ls q = rw (least_is, v_is, t_is, ← e, ← f) q
