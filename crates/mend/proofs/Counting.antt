-- The contours, one after the other: how many vertices are left, and the loop that counts what they lose. Assumes nothing.
-- Key: `counting_begin`, `counting_ready`, `counting_more`, `counting_end`: the loop's begin, what a walk asks for, its turn and its end.
use mathlib.Core.Path.{◌≡◌, refl, sym, ap, ◌∙◌, subst}
use mathlib.Core.Bool.{false}
use mathlib.Core.List.{List, [], ◌∷◌, map}
use mathlib.Core.Logic.{⊎_elim}
use Prim.Native.Nat.{ℕ, zero, suc, ◌+◌, ◌-◌, ◌*◌, ◌≤◌, ◌<◌}
use native.Mathlib.Omega.{arith}
use borrow.Author.Tests.{lt-ltb, le-ltb}
use lib.ListN.{length, get_or, drop, length-append}
use lib.Seq.{drop-cons, drop-drop}
use Rattle.mem.specs.Cases.{lt_or_le}
use Rattle.mem.specs.Loops.{run, over, over_turn}
use Rattle.mem.specs.Packed.{packed}
use Rattle.rules.specs.Job.{job_stride, sum_over}
use Rattle.rules.specs.Mend.{traced, Mending, mended}
use Rattle.rules.specs.MendCall.{traced_from, mended_job, lost_numbers, longer, longest}
use Rattle.laws.proofs.Mend.{mend_counted}
use Rattle.laws.specs.MendNumbers.{mending_of}
use Rattle.laws.specs.MendWalked.{walked_by}
use Rattle.laws.proofs.MendWalked.{walked_same, walked_dry}
use Rattle.mend.specs.declared.ends.Span.{Span}
use Rattle.mend.specs.Walking.{listed}
use Rattle.mend.specs.Walks.{WalkReady, WalkLeft}
use Rattle.mend.specs.Contours.{CountReady, Counted}
use Rattle.mend.proofs.Contour.{length_traced}

-- the vertices of the contours from c on
abbrev pub vertices_from : List ℕ → ℕ → ℕ
vertices_from cs c = over 0 ◌+◌ (λ i. get_or cs i 0) c (length cs)

-- the mendings of the contours from c on, the first of which begins at the vertex `first`
abbrev pub mended_from : List ℕ → List ℕ → ℕ → ℕ → List Mending
mended_from cs ns first c = map mended (traced_from ns first (drop c cs))

pub mended_turn : (cs ns : List ℕ) (first c : ℕ) → c < length cs
    → mended_from cs ns first c ≡ mended (traced ns first (get_or cs c 0)) ∷ mended_from cs ns (first + get_or cs c 0) (c + 1)
unfolding traced_from
mended_turn cs ns first c h = rw (drop-cons cs c 0 h, native.Mathlib.Numerals.add-one) refl

pub mended_end : (cs ns : List ℕ) (first c : ℕ) → length cs ≤ c → mended_from cs ns first c ≡ []
unfolding traced_from
mended_end cs ns first c h = rw (lib.ListN.drop_of_length-le cs {i = c} h) refl

pub mended_all : (cs ns : List ℕ) → mended_job cs ns ≡ mended_from cs ns 0 0
unfolding mended_job
mended_all cs ns = refl

-- each contour is no longer than the longest
longer_left : (a b : ℕ) → a ≤ longer a b
unfolding longer
longer_left a b = ⊎_elim (λ (h : a < b). rw (lt-ltb a b h) (omega arith)) (λ (h : b ≤ a). rw (le-ltb a b h) (omega arith)) (lt_or_le a b)

longer_right : (a b : ℕ) → b ≤ longer a b
unfolding longer
longer_right a b = ⊎_elim (λ (h : a < b). rw (lt-ltb a b h) (omega arith)) (λ (h : b ≤ a). rw (le-ltb a b h) (omega arith)) (lt_or_le a b)

run_longest : (f : ℕ → ℕ) (m i k : ℕ) → i ≤ k → k < i + m → f k ≤ run 0 longer f i m
unfolding run
run_longest f zero i k h g = absurd (omega arith)
run_longest f (suc m) i k h g = ⊎_elim
    (λ (a : i < k). omega (arith, run_longest f m (suc i) k a (omega arith), longer_right (f i) (run 0 longer f (suc i) m)))
    (λ (a : k ≤ i). let e : k ≡ i = omega arith in omega (arith, ap f e, longer_left (f i) (run 0 longer f (suc i) m)))
    (lt_or_le i k)

pub longest_at : (cs : List ℕ) (c : ℕ) → c < length cs → get_or cs c 0 ≤ longest cs
unfolding longest over
longest_at cs c h = run_longest (λ i. get_or cs i 0) (length cs - 0) 0 c (omega arith) (omega arith)

-- words past a greater place stay where those past a lesser one do
pub rest_above : (ws ws' : List ℕ) (n m : ℕ) → n ≤ m → drop n ws' ≡ drop n ws → drop m ws' ≡ drop m ws
rest_above ws ws' n m h e = let k : n + (m - n) ≡ m = omega arith in
    ap (λ (i : ℕ). drop i ws') (sym k) ∙ sym (drop-drop (m - n) n ws') ∙ ap (drop (m - n)) e ∙ drop-drop (m - n) n ws ∙ ap (λ (i : ℕ). drop i ws) k

pub record Counting (cs ns₀ ls₀ ws₀ ns ls ws : List ℕ) (first lost c : ℕ) : Type 0 where
  pub same : length (lost_numbers (mended_job cs ns₀)) ≡ lost + length (lost_numbers (mended_from cs ns₀ first c))
  pub vertices : first + vertices_from cs c ≡ sum_over (λ n. n) cs
  pub few : lost ≤ first
  pub numbers : ns ≡ ns₀
  pub list : ls ≡ ls₀
  pub rest : drop (longest cs) ws ≡ drop (longest cs) ws₀
  pub long_work : length ws ≡ length ws₀

pub counting_begin : (cs ns ls ws : List ℕ) → Counting cs ns ls ws ns ls ws 0 0 0
unfolding sum_over
counting_begin cs ns ls ws = record {
  same = omega (arith, ap (λ (ms : List Mending). length (lost_numbers ms)) (mended_all cs ns));
  vertices = omega arith;
  few = omega arith;
  numbers = refl;
  list = refl;
  rest = refl;
  long_work = refl;
}

-- a contour that is next is there
pub contour_inside : (cs : List ℕ) (first c : ℕ) → c < length cs → first + vertices_from cs c ≡ sum_over (λ n. n) cs
    → first + get_or cs c 0 + vertices_from cs (c + 1) ≡ sum_over (λ n. n) cs
contour_inside cs first c h e = omega (arith, e, ap (λ (n : ℕ). first + n) (over_turn 0 ◌+◌ (λ i. get_or cs i 0) c (length cs) h))

-- one contour of a job loses no more than it has
pub lost_most : (ns : List ℕ) (first n : ℕ) → length (mended (traced ns first n)).points + length (mended (traced ns first n)).lost ≡ n
lost_most ns first n = (mend_counted (traced ns first n)).all ∙ length_traced ns first n

module _ {cs ns₀ ls₀ ws₀ : List ℕ} (r : CountReady cs ns₀ ws₀) {ns ls ws : List ℕ} {first lost c : ℕ}
    (g : Counting cs ns₀ ls₀ ws₀ ns ls ws first lost c) (h : c < length cs) where
  walk_next : WalkReady false ns ls ws first (get_or cs c 0) lost
  walk_next = let v = contour_inside cs first c h g.vertices in record {
    fits = omega (arith, longest_at cs c h, r.fits, g.long_work);
    small = omega (arith, v, r.small);
    few = g.few;
    inside = omega (arith, v, r.inside, ap length g.numbers);
    room = omega arith;
  }

  walked_next : {s : Span} {ns' ls' ws' : List ℕ} → WalkLeft false first (get_or cs c 0) lost s ns ls ws ns' ls' ws'
      → Counting cs ns₀ ls₀ ws₀ ns' ls' ws' (first + get_or cs c 0) s.lost (c + 1)
  unfolding listed lost_numbers packed mending_of
  walked_next {s} {ws' = ws'} w =
      let n = get_or cs c 0 in
      let v = contour_inside cs first c h g.vertices in
      let d = walked_dry ns first n in
      let inside : (first + n) * job_stride ≤ length ns = omega (arith, v, r.inside, ap length g.numbers) in
      let one : length (walked_by false ns first n).lost ≡ length (mended (traced ns first n)).lost =
      ap length (d.lost ∙ ap (λ (m : Mending). m.lost) (sym (walked_same ns first n inside))) in
      let here : length (mended (traced ns first n)).lost ≡ length (mended (traced ns₀ first n)).lost = ap (λ (l : List ℕ). length (mended
      (traced l first n)).lost) g.numbers in
      record {
        same = omega (
          arith,
          g.same,
          w.lost,
          one,
          here,
          ap (λ (ms : List Mending). length (lost_numbers ms)) (mended_turn cs ns₀ first c h),
          length-append (mended (traced ns₀ first n)).lost (lost_numbers (mended_from cs ns₀ (first + n) (c + 1))),
        );
        vertices = v;
        few = omega (arith, g.few, w.lost, one, lost_most ns first n);
        numbers = w.numbers ∙ d.numbers ∙ g.numbers;
        list = w.list ∙ g.list;
        rest = rest_above ws ws' n (longest cs) (longest_at cs c h) w.rest ∙ g.rest;
        long_work = w.size ∙ g.long_work;
      }

  -- the same for n, the length that was read
  module _ {n : ℕ} (e : n ≡ get_or cs c 0) where
    pub counting_ready : WalkReady false ns ls ws first n lost
    counting_ready = subst (λ (k : ℕ). WalkReady false ns ls ws first k lost) (sym e) walk_next

    pub counting_more : {s : Span} {ns' ls' ws' : List ℕ} → WalkLeft false first n lost s ns ls ws ns' ls' ws'
        → Counting cs ns₀ ls₀ ws₀ ns' ls' ws' (first + n) s.lost (c + 1)
    counting_more {s} {ns'} {ls'} {ws'} w = subst (λ (k : ℕ). Counting cs ns₀ ls₀ ws₀ ns' ls' ws' (first + k) s.lost (c + 1)) (sym e)
        (walked_next (subst (λ (k : ℕ). WalkLeft false first k lost s ns ls ws ns' ls' ws') e w))

pub counting_end : {cs ns₀ ls₀ ws₀ ns ls ws : List ℕ} {first lost c : ℕ} → Counting cs ns₀ ls₀ ws₀ ns ls ws first lost c → length cs ≤ c
    → Counted lost cs ns₀ ls₀ ws₀ ns ls ws
unfolding lost_numbers packed
counting_end {cs} {ns₀} {first = first} {c = c} g h = record {
  is = omega (arith, g.same, ap (λ (ms : List Mending). length (lost_numbers ms)) (mended_end cs ns₀ first c h));
  numbers = g.numbers;
  list = g.list;
  rest = g.rest;
  long_work = g.long_work;
}
