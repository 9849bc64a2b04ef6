-- Vertices move down, one after the other: what was written does not reach those that are still to move. Assumes nothing.
-- Key: `closing_begin`, `closing_both`, `closing_more`, `closing_end`: the loop's begin, what a move asks for, its turn and its end.
use mathlib.Core.Path.{◌≡◌, refl, sym, ap, ap₂, ◌∙◌}
use mathlib.Core.List.{List, [], ◌∷◌, ◌++◌, append_assoc, map}
use Prim.Native.Nat.{ℕ, ◌+◌, ◌-◌, ◌*◌, ◌≤◌, ◌<◌}
use native.Mathlib.Omega.{arith}
use lib.ListN.{length, get_or, drop, take, length-map}
use lib.Seq.{length-take-le, take_all}
use Rattle.std.specs.List.{copy_within}
use Rattle.mem.specs.Slice.{splice, splice_nil, splice_append, length_splice, get_or_splice_above, splice_eq, view, view_snoc, length_view, take_snoc}
use Rattle.mem.specs.Packed.{packed, packed_append}
use Rattle.rules.specs.Job.{job_stride, vertex_at, flag_at}
use Rattle.rules.specs.Mend.{Traced}
use Rattle.rules.specs.MendCall.{traced_words}
use Rattle.laws.proofs.Lists.{map_append}
use Rattle.laws.specs.MendNumbers.{point_of}
use Rattle.mend.specs.Losing.{BothIn}
use Rattle.mend.specs.Closing.{CloseReady}

-- the four numbers are those of the vertex
view_four : (ns : List ℕ) (o : ℕ) → o + 4 ≤ length ns
    → view ns o 4 ≡ get_or ns o 0 ∷ get_or ns (o + 1) 0 ∷ get_or ns (o + 2) 0 ∷ get_or ns (o + 3) 0 ∷ []
view_four ns o h = rw (
  view_snoc ns o 3 0 (omega arith),
  view_snoc ns o 2 0 (omega arith),
  view_snoc ns o 1 0 (omega arith),
  view_snoc ns o 0 0 (omega arith),
  native.Mathlib.Nat.add-zero o,
) refl

pub moved : (ns : List ℕ) (from to : ℕ) {ns' : List ℕ} → BothIn ns from to
    → ns' ≡ copy_within ns (from * job_stride) (from * job_stride + job_stride) (to * job_stride)
    → ns' ≡ splice ns (to * job_stride) (traced_words (point_of ns from))
unfolding traced_words point_of vertex_at flag_at
moved ns from to b e =
    let a = from * job_stride in
    let o = to * job_stride in
    let xs = view ns a job_stride in
    let four : length xs ≡ job_stride = length_view ns a job_stride b.one in
    let n : a + job_stride - a ≡ job_stride = omega arith in
    e ∙ rw n (append_assoc (take o ns) xs (drop (o + job_stride) ns))
    ∙ ap (λ (i : ℕ). take o ns ++ (xs ++ drop (o + i) ns)) (sym four)
    ∙ sym (splice_eq ns o xs (omega (arith, b.other, four)))
    ∙ ap (splice ns o) (view_four ns a b.one)

pub length_words : (ps : List Traced) → length (packed traced_words ps) ≡ length ps * job_stride
unfolding packed traced_words
length_words [] = refl
length_words (p ∷ ps) = omega (arith, length_words ps)

-- what is written below the vertex q leaves it as it was
point_above : (ns : List ℕ) (o : ℕ) (xs : List ℕ) (q : ℕ) → o + length xs ≤ q * job_stride → point_of (splice ns o xs) q ≡ point_of ns q
unfolding point_of vertex_at flag_at
point_above ns o xs q h = rw (
  get_or_splice_above ns o (q * job_stride) xs 0 h,
  get_or_splice_above ns o (q * job_stride + 1) xs 0 (omega arith),
  get_or_splice_above ns o (q * job_stride + 2) xs 0 (omega arith),
  get_or_splice_above ns o (q * job_stride + 3) xs 0 (omega arith),
) refl

-- what is written when i have moved
written : List ℕ → List ℕ → ℕ → List ℕ
written ns kept i = packed traced_words (map (point_of ns) (take i kept))

pub record Closing (ns₀ kept : List ℕ) (to : ℕ) (ns : List ℕ) (i : ℕ) : Type 0 where
  pub is : ns ≡ splice ns₀ (to * job_stride) (packed traced_words (map (point_of ns₀) (take i kept)))
  pub within : i ≤ length kept
  pub long : length ns ≡ length ns₀

pub closing_begin : (ns kept : List ℕ) (to : ℕ) → Closing ns kept to ns 0
unfolding packed
closing_begin ns kept to = record { is = sym (splice_nil ns (to * job_stride)); within = omega arith; long = refl }

module _ {ns₀ kept : List ℕ} {to : ℕ} (r : CloseReady ns₀ kept to) {ns : List ℕ} {i : ℕ} (g : Closing ns₀ kept to ns i) (h : i < length kept) where
  long_written : length (packed traced_words (map (point_of ns₀) (take i kept))) ≡ i * job_stride
  long_written = length_words (map (point_of ns₀) (take i kept))
      ∙ ap (λ (k : ℕ). k * job_stride) (length-map (take i kept) (point_of ns₀) ∙ length-take-le i kept (omega arith))

  pub closing_both : {q : ℕ} → q ≡ get_or kept i 0 → BothIn ns q (to + i)
  closing_both e = let a = r.inside i h in let b = r.down i h in
      record { one = omega (arith, e, a, g.long); other = omega (arith, a, b, g.long) }

  pub closing_more : {q : ℕ} {ns' : List ℕ} → q ≡ get_or kept i 0 → ns' ≡ splice ns ((to + i) * job_stride) (traced_words (point_of ns q))
      → Closing ns₀ kept to ns' (i + 1)
  unfolding packed
  closing_more {q} {ns'} e f =
      let o = to * job_stride in
      let xs = packed traced_words (map (point_of ns₀) (take i kept)) in
      let p = point_of ns₀ (get_or kept i 0) in
      let at : (to + i) * job_stride ≡ o + length xs = omega (arith, long_written) in
      let same : point_of ns q ≡ p = ap₂ point_of g.is e ∙ point_above ns₀ o xs (get_or kept i 0) (omega (arith, long_written, r.down i h)) in
      let words : xs ++ traced_words p ≡ packed traced_words (map (point_of ns₀) (take (i + 1) kept)) =
      sym (ap (packed traced_words) (ap (map (point_of ns₀)) (take_snoc kept i 0 h) ∙ map_append (point_of ns₀) (take i kept) (get_or kept i 0 ∷ []))
      ∙ packed_append traced_words (map (point_of ns₀) (take i kept)) (p ∷ []) ∙ ap (λ (l : List ℕ). xs ++ l) (mathlib.Core.List.append-nil (traced_words p))) in
      let all : ns' ≡ splice ns₀ o (packed traced_words (map (point_of ns₀) (take (i + 1) kept))) =
      f ∙ ap₂ (λ (l ys : List ℕ). splice l ((to + i) * job_stride) ys) g.is (ap traced_words same)
      ∙ ap (λ (k : ℕ). splice (splice ns₀ o xs) k (traced_words p)) at ∙ splice_append ns₀ o xs (traced_words p) ∙ ap (splice ns₀ o) words in
      record { is = all; within = omega arith; long = ap length all ∙ length_splice ns₀ o (packed traced_words (map (point_of ns₀) (take (i + 1) kept))) }

pub closing_end : {ns₀ kept : List ℕ} {to : ℕ} {ns : List ℕ} {i : ℕ} → Closing ns₀ kept to ns i → length kept ≤ i
    → ns ≡ splice ns₀ (to * job_stride) (packed traced_words (map (point_of ns₀) kept))
closing_end {ns₀} {kept} {to} {ns} {i} g h = g.is ∙ ap (λ (l : List ℕ). splice ns₀ (to * job_stride) (packed traced_words (map (point_of ns₀) l)))
    (take_all i kept h)
