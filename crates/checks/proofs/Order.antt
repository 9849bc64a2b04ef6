-- One check after the other: the first refusal is the answer, and as long as none refuses, the answer is that of the checks that are left. And what is known
-- once a check has passed. Assumes nothing.
use Rattle.std.specs.Prelude.{Result, Ok, Err, ⊤}
use mathlib.Core.Path.{◌≡◌, refl, sym, ◌∙◌}
use mathlib.Core.Bool.{Bool, false, not, ◌||◌}
use mathlib.Core.List.{List}
use Prim.Native.Nat.{ℕ, ◌≤◌}
use lib.Dec.{ltb}
use borrow.Author.Tests.{ltb-false, not-false}
use Rattle.ints.specs.Bools.{or_right}
use Rattle.rules.specs.Job.{Job}
use Rattle.rules.specs.Checks.{Checked, refusal, refuse_if, refuse_at, or_next, check_nvp, counts_agree, check_counts, first_high, first_bad_flag, check_v, least_lengths, first_short, check}
use Rattle.rules.specs.declared.Refusal.{Refusal}
use Rattle.rules.specs.declared.Refusal.TheVariants.{BadCornerLimit, CountsDisagree, HighCoordinate, BadFlag, TooManyVertices, ShortBuffer}
use Rattle.laws.specs.Checks.{Agreed}
use Rattle.laws.proofs.Checks.{not_refused, agreed}
use Rattle.checks.specs.Answers.{verdict_of, is_passed, is_refusal}

-- ---- what is known once a check has passed
not_refusing : (b : Bool) (r : Refusal) {v : Result ⊤ Refusal} → v ≡ verdict_of (refuse_if b r) → v ≡ Ok tt → b ≡ false
not_refusing b r e p = not_refused b r (is_passed (refuse_if b r) (sym e ∙ p))

module _ (j : Job) {v : Result ⊤ Refusal} where
  pub limit_low : v ≡ verdict_of (check_nvp j) → v ≡ Ok tt → j.nvp ≤ 12
  unfolding check_nvp
  limit_low e p =
      ltb-false 12 j.nvp (or_right (ltb j.nvp 3) (ltb 12 j.nvp) (not_refusing (ltb j.nvp 3 || ltb 12 j.nvp) (BadCornerLimit j.nvp) e p))

  pub counts_agreed : v ≡ verdict_of (check_counts j) → v ≡ Ok tt → Agreed j
  unfolding check_counts
  counts_agreed e p = agreed j (not-false (counts_agree j) (not_refusing (not (counts_agree j)) CountsDisagree e p))

pub few : {n : ℕ} {v : Result ⊤ Refusal} → v ≡ verdict_of (refuse_if (ltb 65535 n) (TooManyVertices n)) → v ≡ Ok tt → n ≤ 65535
few {n} e p = ltb-false 65535 n (not_refusing (ltb 65535 n) (TooManyVertices n) e p)

-- ---- one check after the other

-- 3, 4 and 6
abbrev pub high_check : Job → Checked
high_check j = refuse_at HighCoordinate (first_high j)

abbrev pub flag_check : Job → Checked
flag_check j = refuse_at BadFlag (first_bad_flag j)

abbrev pub room_check : Job → List ℕ → Checked
room_check j ls = refuse_at ShortBuffer (first_short ls (least_lengths j))

-- a comes next and then b: their answer is the answer of the whole
pub record Rest (j : Job) (ls : List ℕ) (a b : Checked) : Type 0 where
  pub same : verdict_of (or_next a b) ≡ verdict_of (check j ls)

pub all_left : (j : Job) (ls : List ℕ)
    → Rest j ls (check_nvp j) (or_next (check_counts j) (or_next (high_check j) (or_next (flag_check j) (or_next (check_v j) (room_check j ls)))))
unfolding check
all_left j ls = record { same = refl }

module _ {j : Job} {ls : List ℕ} {a b : Checked} {v : Result ⊤ Refusal} (l : Rest j ls a b) (e : v ≡ verdict_of a) where
  -- a has passed: the answer is b's
  pub last : v ≡ Ok tt → verdict_of b ≡ verdict_of (check j ls)
  unfolding or_next
  last p = rw (is_passed a (sym e ∙ p)) at l.same

  -- a refuses: that is the answer
  pub stop : {r : Refusal} → v ≡ Err r → Err r ≡ verdict_of (check j ls)
  unfolding or_next verdict_of
  stop {r} p =
      let h : verdict_of (or_next (refusal r) b) ≡ verdict_of (check j ls) = rw (is_refusal a r (sym e ∙ p)) at l.same in h

-- a has passed, and b comes next
pub past : {j : Job} {ls : List ℕ} {a b d : Checked} {v : Result ⊤ Refusal} → Rest j ls a (or_next b d) → v ≡ verdict_of a → v ≡ Ok tt → Rest j ls b d
past l e p = record { same = last l e p }
