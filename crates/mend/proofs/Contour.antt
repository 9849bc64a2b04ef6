-- One contour is walked, and its kept points close up. Assumes nothing.
-- Key: `close_ready`: the kept points may move down; `contour_mended`: what is left is what the sentences give.
use mathlib.Core.Path.{◌≡◌, sym, ap, ap₂, ◌∙◌, subst}
use mathlib.Core.Bool.{true}
use mathlib.Core.List.{List, ◌++◌, map}
use Prim.Native.Nat.{ℕ, zero, suc, ◌+◌, ◌*◌, ◌≤◌, ◌<◌}
use native.Mathlib.Omega.{arith}
use lib.ListN.{length, get_or, take, drop, length-map}
use lib.Seq.{take-take}
use Rattle.mem.specs.Slice.{view, splice, take_splice_end, drop_splice, length_splice}
use Rattle.mem.specs.Tab.{length_tab}
use Rattle.mem.specs.Packed.{packed}
use Rattle.rules.specs.Job.{job_stride}
use Rattle.rules.specs.Mend.{traced, Mending, mended}
use Rattle.rules.specs.MendCall.{traced_words}
use Rattle.laws.specs.Lists.{All}
use Rattle.laws.proofs.Lists.{all_at, all_head}
use Rattle.laws.proofs.Mend.{mend_counted}
use Rattle.laws.specs.MendNumbers.{Numbered, point_of, mending_of, Up, up_none, up_more}
use Rattle.laws.specs.MendWalked.{walked_by}
use Rattle.laws.proofs.MendWalked.{walked_same, walked_sound, walked_fine}
use Rattle.mend.specs.declared.ends.Span.{Span}
use Rattle.mend.specs.Walking.{listed}
use Rattle.mend.specs.Closing.{CloseReady}
use Rattle.mend.specs.Walks.{WalkLeft}
use Rattle.mend.specs.Contours.{ContourReady, ContourMended}
use Rattle.mend.proofs.Closing.{length_words}

-- numbers that rise: the one at i is at least i above the first
up_at : {b : ℕ} {ks : List ℕ} → Up b ks → (i : ℕ) → i < length ks → b + i ≤ get_or ks i 0
up_at up_none i h = absurd (omega arith)
up_at (up_more p u) zero h = omega arith
up_at (up_more p u) (suc i) h = omega (arith, up_at u i (omega arith))

up_from : {b first : ℕ} {ks : List ℕ} → Up b ks → All (λ k. first ≤ k) ks → Up first ks
up_from up_none a = up_none
up_from {first = first} (up_more {k} p u) a = up_more {b = first} {k = k} (all_head a) u

pub length_traced : (ns : List ℕ) (first n : ℕ) → length (traced ns first n) ≡ n
unfolding traced
length_traced ns first n = length_tab _ n

module _ {ns ls ws : List ℕ} {first n to lost : ℕ} (r : ContourReady ns ls ws first n to lost) where
  abbrev left : Numbered
  left = walked_by true ns first n

  abbrev whole : Mending
  whole = mended (traced ns first n)

  is : whole ≡ mending_of left
  is = walked_same ns first n r.walk.inside

  points_are : whole.points ≡ map (point_of left.numbers) left.left
  unfolding mending_of
  points_are = ap (λ (m : Mending). m.points) is

  lost_are : whole.lost ≡ left.lost
  unfolding mending_of
  lost_are = ap (λ (m : Mending). m.lost) is

  left_long : length left.left ≡ length whole.points
  left_long = sym (ap length points_are ∙ length-map left.left (point_of left.numbers))

  module _ {s : Span} {ns' ls' ws' : List ℕ} (w : WalkLeft true first n lost s ns ls ws ns' ls' ws') where
    -- the part that is lent has k words
    pub close_ready : (k : ℕ) → k ≡ s.n → CloseReady ns' (view ws' s.lo k) to
    close_ready k e =
        let sound = walked_sound ns first n r.walk.inside in
        let fine = walked_fine true ns first n in
        subst (λ (ks : List ℕ). CloseReady ns' ks to) (sym (ap (view ws' s.lo) e ∙ w.left)) (record {
          inside = λ i h. let a = all_at sound.inside i 0 h in omega (arith, a, ap length w.numbers);
          down = λ i h. let a = up_at (up_from sound.rising fine.low) i h in omega (arith, a, r.down);
        })

    pub contour_mended : {ns'' : List ℕ} (k : ℕ) → k ≡ s.n → ns'' ≡ splice ns' (to * job_stride) (packed traced_words (map (point_of ns') (view ws' s.lo k)))
        → ContourMended first n to lost (record { kept = s.n; lost = s.lost }) ns ls ws ns'' ls' ws'
    unfolding listed
    contour_mended {ns''} k f e =
        let ps = whole.points in
        let xs = packed traced_words ps in
        let out = (walked_fine true ns first n).outside in
        let all = (mend_counted (traced ns first n)).all ∙ length_traced ns first n in
        let size : length ns' ≡ length ns = ap length w.numbers ∙ out.size in
        let words : packed traced_words (map (point_of ns') (view ws' s.lo k)) ≡ xs =
        ap₂ (λ (ms ks : List ℕ). packed traced_words (map (point_of ms) ks)) w.numbers (ap (view ws' s.lo) f ∙ w.left) ∙ ap (packed traced_words)
        (sym points_are) in
        let is : ns'' ≡ splice ns' (to * job_stride) xs = e ∙ ap (splice ns' (to * job_stride)) words in
        let kept : s.n ≡ length ps = w.count ∙ left_long in
        let ends : to * job_stride + length xs ≡ (to + s.n) * job_stride = omega (arith, length_words ps, kept) in
        let within : (to + s.n) * job_stride ≤ length ns' = omega (arith, kept, all, size, r.down, r.walk.inside) in
        let below : take (to * job_stride) ns' ≡ take (to * job_stride) ns =
        sym (take-take (to * job_stride) (first * job_stride) ns' (omega (arith, r.down))) ∙ ap (take (to * job_stride))
        (ap (take (first * job_stride)) w.numbers ∙ out.before) ∙ take-take (to * job_stride) (first * job_stride) ns (omega (arith, r.down)) in
        record {
          count = kept;
          lost = w.lost ∙ ap (λ (l : List ℕ). lost + length l) (sym lost_are);
          list = w.list ∙ ap (splice ls lost) (sym lost_are);
          kept = ap (take ((to + s.n) * job_stride)) is ∙ take_splice_end ns' (to * job_stride) ((to + s.n) * job_stride) xs ends within ∙ ap (λ
              (l : List ℕ). l ++ xs) below;
          behind = ap (drop ((first + n) * job_stride)) is
              ∙ drop_splice ns' (to * job_stride) ((first + n) * job_stride) xs (omega (arith, ends, kept, all, r.down))
              ∙ ap (drop ((first + n) * job_stride)) w.numbers ∙ out.behind;
          long_numbers = ap length is ∙ length_splice ns' (to * job_stride) xs ∙ size;
          rest = w.rest;
          long_work = w.size;
        }
