-- A job of the numbers that are handed in, the verdict, and the searches and the least lengths over those numbers. Assumes nothing.
-- Key: `is_passed`, `is_refusal`: what a verdict says of the rules' check; `high_is`, `flag_is`, `least_is`: searches and lengths are the rules'.
use Rattle.std.specs.Prelude.{◌≡◌, refl, List, [], ◌∷◌, ℕ, ◌+◌, ◌*◌, ◌≤◌, ltb, Option, None, Result, Ok, Err, ⊤}
use Rattle.mem.specs.Loops.{over}
use Rattle.rules.specs.Lists.{when, or_else}
use Rattle.rules.specs.Job.{Job, vertex_at, flag_at, count_all, count_v, count_t}
use Rattle.rules.specs.Checks.{Checked, passed, refusal, or_next, vertex_stride, work_words, least_lengths, is_high, first_high, first_bad_flag}
use Rattle.rules.specs.declared.Refusal.{Refusal}
use Rattle.rules.specs.declared.Grid.{Grid}
use Rattle.checks.specs.declared.contour_set.ContourSet.{ContourSet}

-- the job of these numbers and lists
abbrev pub job_of : ℕ → ℕ → ℕ → ℕ → List ℕ → List ℕ → List ℕ → List ℕ → Job
job_of nvp w h border ls rs cs ns = record { nvp = nvp; w = w; h = h; border = border; lengths = ls; regions = rs; codes = cs; numbers = ns }

-- the job of these contours on this grid
abbrev pub job_in : ℕ → Grid → ContourSet → Job
job_in nvp g s = job_of nvp g.w g.h g.border s.lengths.now s.regions.now s.codes.now s.numbers.now

-- no grid and no border, for what doesn't depend on them
abbrev pub no_grid : Grid
no_grid = record { w = 0; h = 0; border = 0 }

-- the answer of the code, case by case: it may be built, or the refusal, whose number and second number are the rules' `refusal_number` and `refusal_second`
unfoldable pub verdict_of : Checked → Result ⊤ Refusal
verdict_of passed = Ok tt
verdict_of (refusal r) = Err r

-- the first of two verdicts that refuses: the rules' `or_next`, of verdicts
unfoldable pub first_of : Result ⊤ Refusal → Result ⊤ Refusal → Result ⊤ Refusal
first_of (Ok _) v = v
first_of (Err r) v = Err r

pub first_of_lem : (a b : Checked) → verdict_of (or_next a b) ≡ first_of (verdict_of a) (verdict_of b)
unfolding verdict_of first_of or_next
first_of_lem passed b = refl
first_of_lem (refusal r) b = refl

-- for those who call: what the verdict says of the rules' own check
pub is_passed : (c : Checked) → verdict_of c ≡ Ok tt → c ≡ passed
unfolding verdict_of
is_passed passed e = refl
is_passed (refusal r) e = cc

pub is_refusal : (c : Checked) (r : Refusal) → verdict_of c ≡ Err r → c ≡ refusal r
unfolding verdict_of
is_refusal passed r e = cc
is_refusal (refusal q) r e = cc

-- the rules' `first_high` and `first_bad_flag`, of n vertices of the numbers ns
unfoldable pub first_high_in : List ℕ → ℕ → Option ℕ
first_high_in ns n = over None or_else (λ k. when (is_high (vertex_at ns k)) k) 0 n

unfoldable pub first_bad_flag_in : List ℕ → ℕ → Option ℕ
first_bad_flag_in ns n = over None or_else (λ k. when (ltb 1 (flag_at ns k)) k) 0 n

pub high_is : (j : Job) → first_high j ≡ first_high_in j.numbers (count_all j)
unfolding first_high first_high_in
high_is j = refl

pub flag_is : (j : Job) → first_bad_flag j ≡ first_bad_flag_in j.numbers (count_all j)
unfolding first_bad_flag first_bad_flag_in
flag_is j = refl

-- numbers that have passed replies 1 and 5: no least length of theirs wraps
pub record Sized (nvp v t : ℕ) : Type 0 where
  pub nvp_most : nvp ≤ 12
  pub v_most : v ≤ 65535
  pub t_most : t ≤ v

-- the rules' `least_lengths`, of nvp, V and T
unfoldable pub least_of : ℕ → ℕ → ℕ → List ℕ
least_of nvp v t = (vertex_stride * v) ∷ (t * nvp) ∷ (t * nvp) ∷ t ∷ t ∷ t ∷ (4096 + 128 * v) ∷ []

pub least_is : (j : Job) → least_lengths j ≡ least_of j.nvp (count_v j) (count_t j)
unfolding least_lengths least_of work_words
least_is j = refl
