-- How many points a mended job keeps and loses, and how many words they are: kept and lost together are the points that were declared. Assumes nothing.
-- Key: `job_counted`, `kept_contours`, `kept_long`; `longest_most`.
use mathlib.Core.Path.{◌≡◌, refl, ap}
use mathlib.Core.Bool.{Bool, true, false, cond}
use mathlib.Core.List.{List, [], ◌∷◌, map}
use Prim.Native.Nat.{ℕ, zero, suc, ◌+◌, ◌-◌, ◌*◌, ◌≤◌}
use native.Mathlib.Nat.{sub-zero}
use native.Mathlib.Omega.{arith}
use lib.Dec.{ltb}
use lib.ListN.{length, get_or, length-append}
use Rattle.mem.specs.Loops.{run, over}
use Rattle.mem.specs.Tab.{length_tab}
use Rattle.mem.specs.Packed.{packed}
use Rattle.rules.specs.Job.{job_stride, sum_over, vertex_at, flag_at}
use Rattle.rules.specs.Mend.{Traced, traced, Mending, mended}
use Rattle.rules.specs.MendCall.{traced_from, mended_job, kept_lengths, kept_count, lost_numbers, traced_words, kept_words, longer, longest}
use Rattle.laws.proofs.Mend.{mend_counted}

-- ---- a sum, element by element

run_shift : (f g : ℕ → ℕ) → ((j : ℕ) → f (suc j) ≡ g j) → (m i : ℕ) → run 0 ◌+◌ f (suc i) m ≡ run 0 ◌+◌ g i m
unfolding run
run_shift f g h zero i = refl
run_shift f g h (suc m) i = rw (h i, run_shift f g h m (suc i)) refl

sum_none : sum_over (λ k. k) [] ≡ 0
unfolding sum_over over run
sum_none = refl

sum_cons : (n : ℕ) (ls : List ℕ) → sum_over (λ k. k) (n ∷ ls) ≡ n + sum_over (λ k. k) ls
unfolding sum_over over run
sum_cons n ls =
    rw (sub-zero (suc (length ls)), sub-zero (length ls))
    (ap (λ (s : ℕ). n + s) (run_shift (λ c. get_or (n ∷ ls) c 0) (λ c. get_or ls c 0) (λ j. refl) (length ls) 0))

-- ---- kept and lost

length_traced : (ns : List ℕ) (first n : ℕ) → length (traced ns first n) ≡ n
unfolding traced
length_traced ns first n = length_tab (λ k. record { number = first + k; vertex = vertex_at ns (first + k); flag = flag_at ns (first + k) }) n

contours_counted : (ns : List ℕ) (first : ℕ) (ls : List ℕ)
    → length (lost_numbers (map mended (traced_from ns first ls))) + kept_count (map mended (traced_from ns first ls)) ≡ sum_over (λ n. n) ls
unfolding lost_numbers packed kept_count kept_lengths traced_from
contours_counted ns first [] = omega (arith, sum_none)
contours_counted ns first (n ∷ ls) =
    let ms = map mended (traced_from ns (first + n) ls) in
    let m = mended (traced ns first n) in
    let a = (mend_counted (traced ns first n)).all in
    let b = length_traced ns first n in
    let c = contours_counted ns (first + n) ls in
    let d = sum_cons (length m.points) (kept_lengths ms) in
    let e = sum_cons n ls in
    simp length-append (omega arith)

module _ (ls ns : List ℕ) where
  pub job_counted : length (lost_numbers (mended_job ls ns)) + kept_count (mended_job ls ns) ≡ sum_over (λ n. n) ls
  unfolding mended_job
  job_counted = contours_counted ns 0 ls

  -- the number of contours stays
  contours_stay : (first : ℕ) (ks : List ℕ) → length (kept_lengths (map mended (traced_from ns first ks))) ≡ length ks
  unfolding kept_lengths traced_from
  contours_stay first [] = refl
  contours_stay first (k ∷ ks) = ap suc (contours_stay (first + k) ks)

  pub kept_contours : length (kept_lengths (mended_job ls ns)) ≡ length ls
  unfolding mended_job
  kept_contours = contours_stay 0 ls

-- ---- the words of those that are kept

points_long : (ps : List Traced) → length (packed traced_words ps) ≡ length ps * job_stride
unfolding packed traced_words
points_long [] = refl
points_long (p ∷ ps) = let e = points_long ps in simp length-append (omega arith)

pub kept_long : (ms : List Mending) → length (kept_words ms) ≡ kept_count ms * job_stride
unfolding kept_words kept_count kept_lengths packed
kept_long [] = omega (arith, sum_none)
kept_long (m ∷ ms) =
    let a = points_long m.points in
    let b = kept_long ms in
    let c = sum_cons (length m.points) (kept_lengths ms) in
    simp length-append (omega arith)

-- ---- the longest contour is no longer than all together

longer_most : (a b : ℕ) → longer a b ≤ a + b
unfolding longer
longer_most a b = elim (ltb a b) as (λ (t : Bool). cond t b a ≤ a + b) [ true ↦ omega arith | false ↦ omega arith ]

run_most : (f : ℕ → ℕ) (m i : ℕ) → run 0 longer f i m ≤ run 0 ◌+◌ f i m
unfolding run
run_most f zero i = omega arith
run_most f (suc m) i = omega (arith, longer_most (f i) (run 0 longer f (suc i) m), run_most f m (suc i))

pub longest_most : (ls : List ℕ) → longest ls ≤ sum_over (λ n. n) ls
unfolding longest sum_over over
longest_most ls = run_most (λ c. get_or ls c 0) (length ls - 0) 0
