-- Replies 1 to 6: what is known of a job that passes the checks, and its counts. Assumes nothing.
-- Key: `checked`: what is known of a job that passes; `agreed`: what of one whose counts agree; `T-far-below-V`: T is 0, or smaller than V by two.
use Rattle.std.specs.Prelude.{ℕ, zero, suc, ◌+◌, ◌-◌, ◌*◌, ◌≤◌, ◌<◌, ◌≡◌, refl, Bool, true, false, not, cond, ◌||◌, ◌⊎◌, List, leb, ltb, eqb, length, get_or, Option, Some, None}
use Rattle.std.proofs.Common.{arith, inl, inr, ⊎_elim, ltb-false, leb-true, eqb-true, le-leb}
use Rattle.std.proofs.lemmas.Bool.{not-false, lt-leb}
use Rattle.ints.specs.Bools.{and_left, and_right, or_left, or_right}
use Rattle.mem.specs.Loops.{over, run}
use Rattle.mem.specs.Cases.{lt_or_le}
use Rattle.rules.specs.declared.Vertex.{Vertex}
use Rattle.rules.specs.declared.Refusal.{Refusal}
use Rattle.rules.specs.declared.Refusal.TheVariants.{BadCornerLimit, CountsDisagree, HighCoordinate, BadFlag, TooManyVertices, ShortBuffer}
use Rattle.rules.specs.Plane.{on_plane, InGrid}
use Rattle.rules.specs.Job.{Job, job_stride, vertex_at, flag_at, sum_over, count_all, count_v, count_t}
use Rattle.rules.specs.Checks.{Checked, passed, refusal, or_next, refuse_if, refuse_at, check_nvp, counts_agree, check_counts, is_high, first_high, first_bad_flag, check_v, least_lengths, first_short, check}
use Rattle.laws.proofs.Lowest.{first_none}
use Rattle.laws.specs.Checks.{Passed, Agreed, points_in, triangles_in}

-- ---- a check that passes
or_first : (a b : Checked) → or_next a b ≡ passed → a ≡ passed
unfolding or_next
or_first passed b e = refl
or_first (refusal r) b e = e

or_second : (a b : Checked) → or_next a b ≡ passed → b ≡ passed
unfolding or_next
or_second passed b e = e
or_second (refusal r) b e = let z : ◌≡◌ {A = ℕ} 0 1 = cc in absurd (omega arith)

pub not_refused : (b : Bool) (r : Refusal) → refuse_if b r ≡ passed → b ≡ false
unfolding refuse_if
not_refused true r e = let z : ◌≡◌ {A = ℕ} 0 1 = cc in absurd (omega arith)
not_refused false r e = refl

not_found : (r : ℕ → Refusal) (f : Option ℕ) → refuse_at r f ≡ passed → f ≡ None
unfolding refuse_at
not_found r (Some k) e = let z : ◌≡◌ {A = ℕ} 0 1 = cc in absurd (omega arith)
not_found r None e = refl

not_high : (v : Vertex) → is_high v ≡ false → InGrid (on_plane v)
unfolding is_high
not_high v e = record {
  x_small = ltb-false 32767 v.x (or_left (ltb 32767 v.x) (ltb 32767 v.z) e);
  z_small = ltb-false 32767 v.z (or_right (ltb 32767 v.x) (ltb 32767 v.z) e);
}

pub checked : (j : Job) (ls : List ℕ) → check j ls ≡ passed → Passed j ls
unfolding check check_nvp check_counts check_v first_high first_bad_flag first_short
checked j ls e₁ = record {
  nvp_low = ltb-false j.nvp 3 (or_left (ltb j.nvp 3) (ltb 12 j.nvp) n);
  nvp_high = ltb-false 12 j.nvp (or_right (ltb j.nvp 3) (ltb 12 j.nvp) n);
  agree = not-false (counts_agree j) (not_refused (not (counts_agree j)) CountsDisagree (or_first (check_counts j) _ e₂));
  grid = λ k h. not_high (vertex_at j.numbers k)
      (first_none (λ k. is_high (vertex_at j.numbers k)) (count_all j) (not_found HighCoordinate (first_high j) (or_first high _ e₃)) k h);
  flags = λ k h. ltb-false 1 (flag_at j.numbers k)
      (first_none (λ k. ltb 1 (flag_at j.numbers k)) (count_all j) (not_found BadFlag (first_bad_flag j) (or_first flag _ e₄)) k h);
  few = ltb-false 65535 (count_v j) (not_refused (ltb 65535 (count_v j)) (TooManyVertices (count_v j)) (or_first (check_v j) _ e₅));
  room = λ k h. ltb-false (get_or ls k 0) (get_or least k 0)
      (first_none (λ k. ltb (get_or ls k 0) (get_or least k 0)) (length least) (not_found ShortBuffer (first_short ls least) (or_second (check_v j) _ e₅)) k h);
}
  where
    least : List ℕ
    least = least_lengths j

    high : Checked
    high = refuse_at HighCoordinate (first_high j)

    flag : Checked
    flag = refuse_at BadFlag (first_bad_flag j)

    short : Checked
    short = refuse_at ShortBuffer (first_short ls least)

    e₂ : or_next (check_counts j) (or_next high (or_next flag (or_next (check_v j) short))) ≡ passed
    e₂ = or_second (check_nvp j) _ e₁

    e₃ : or_next high (or_next flag (or_next (check_v j) short)) ≡ passed
    e₃ = or_second (check_counts j) _ e₂

    e₄ : or_next flag (or_next (check_v j) short) ≡ passed
    e₄ = or_second high _ e₃

    e₅ : or_next (check_v j) short ≡ passed
    e₅ = or_second flag _ e₄

    n : (ltb j.nvp 3 || ltb 12 j.nvp) ≡ false
    n = not_refused (ltb j.nvp 3 || ltb 12 j.nvp) (BadCornerLimit j.nvp) (or_first (check_nvp j) _ e₁)

pub agreed : (j : Job) → counts_agree j ≡ true → Agreed j
unfolding counts_agree
agreed j e = record {
  regions = eqb-true _ _ (and_left regions _ e);
  codes = eqb-true _ _ (and_left codes _ (and_right regions _ e));
  numbers = eqb-true _ _ (and_left numbers _ (and_right codes _ (and_right regions _ e)));
  contours = leb-true _ _ (and_right numbers _ (and_right codes _ (and_right regions _ e)));
}
  where
    regions : Bool
    regions = eqb (length j.regions) (length j.lengths)

    codes : Bool
    codes = eqb (length j.codes) (length j.lengths)

    numbers : Bool
    numbers = eqb (length j.numbers) (count_all j * job_stride)

-- ---- the counts: what contour c adds to V and to T
run_least : (f : ℕ → ℕ) (m i k : ℕ) → i ≤ k → k < i + m → f k ≤ run 0 ◌+◌ f i m
unfolding run
run_least f zero i k h l = absurd (omega arith)
run_least f (suc m) i k h l = ⊎_elim
    (λ (a : i < k). omega (arith, run_least f m (suc i) k a (omega arith)))
    (λ (a : k ≤ i). let e : k ≡ i = omega arith in rw e (omega arith)) (lt_or_le i k)

run_mono : (f g : ℕ → ℕ) → ((k : ℕ) → f k ≤ g k) → (m i : ℕ) → run 0 ◌+◌ f i m ≤ run 0 ◌+◌ g i m
unfolding run
run_mono f g h zero i = omega arith
run_mono f g h (suc m) i = omega (arith, h i, run_mono f g h m (suc i))

-- no contour has more than V vertices, if it is not skipped
pub length_small : (j : Job) (k : ℕ) → k < length j.lengths → 3 ≤ get_or j.lengths k 0 → get_or j.lengths k 0 ≤ count_v j
unfolding count_v sum_over over
length_small j k h l = let a = run_least (points_in j.lengths) (length j.lengths - 0) 0 k (omega arith) (omega arith) in rw (le-leb 3 (get_or j.lengths k 0) l) at a

-- T is 0, or smaller than V by two at least
run_two : (f g : ℕ → ℕ) → ((k : ℕ) → (f k ≡ 0) ⊎ (f k + 2 ≤ g k)) → ((k : ℕ) → f k ≤ g k) → (m i : ℕ)
    → (run 0 ◌+◌ f i m ≡ 0) ⊎ (run 0 ◌+◌ f i m + 2 ≤ run 0 ◌+◌ g i m)
unfolding run
run_two f g two le zero i = inl refl
run_two f g two le (suc m) i =
    let h = run_mono f g le m (suc i) in
    ⊎_elim
    (λ (a : f i ≡ 0). ⊎_elim
    (λ (b : run 0 ◌+◌ f (suc i) m ≡ 0). inl (omega arith))
    (λ (b : run 0 ◌+◌ f (suc i) m + 2 ≤ run 0 ◌+◌ g (suc i) m). inr (omega arith))
    (run_two f g two le m (suc i)))
    (λ (a : f i + 2 ≤ g i). inr (omega arith))
    (two i)

pub T-far-below-V : (j : Job) → (count_t j ≡ 0) ⊎ (count_t j + 2 ≤ count_v j)
unfolding count_t count_v sum_over over
T-far-below-V j = run_two (triangles_in j.lengths) (points_in j.lengths) (λ k. two (get_or j.lengths k 0)) (λ k. less (leb 3 (get_or j.lengths k 0)) (get_or j.lengths k 0)) (length j.lengths - 0) 0
  where
    two : (n : ℕ) → (cond (leb 3 n) (n - 2) 0 ≡ 0) ⊎ (cond (leb 3 n) (n - 2) 0 + 2 ≤ cond (leb 3 n) n 0)
    two n = ⊎_elim
        (λ (h : n < 3). inl (rw (lt-leb 3 n h) refl))
        (λ (h : 3 ≤ n). inr (rw (le-leb 3 n h) (omega arith)))
        (lt_or_le n 3)

    less : (b : Bool) (n : ℕ) → cond b (n - 2) 0 ≤ cond b n 0
    less true n = omega arith
    less false n = omega arith

pub T-below-V : (j : Job) → count_t j ≤ count_v j
T-below-V j = ⊎_elim (λ (e : count_t j ≡ 0). omega arith) (λ (h : count_t j + 2 ≤ count_v j). omega arith) (T-far-below-V j)

-- V is at most what the lengths say
pub V-below-all : (j : Job) → count_v j ≤ count_all j
unfolding count_v count_all sum_over over
V-below-all j = run_mono (points_in j.lengths) (λ k. get_or j.lengths k 0) (λ k. less (leb 3 (get_or j.lengths k 0)) (get_or j.lengths k 0)) (length j.lengths - 0) 0
  where
    less : (b : Bool) (n : ℕ) → cond b n 0 ≤ n
    less true n = omega arith
    less false n = omega arith
