-- The last point of a chain in the buffer is dropped if it has the number of the first. Assumes nothing.
-- Key: `stays_open` and `closes`: what the hole is then.
use mathlib.Core.Path.{◌≡◌, refl, sym, ◌∙◌}
use mathlib.Core.Bool.{Bool, true, false}
use mathlib.Core.List.{List, append-nil}
use Prim.Native.Nat.{ℕ, ◌+◌, ◌-◌, ◌*◌, ◌≤◌, ◌<◌}
use native.Mathlib.Omega.{arith}
use borrow.Author.Tests.{eq-eqb, ne_eqb}
use lib.Dec.{eqb}
use lib.ListN.{length, take, get_or, replicate}
use Rattle.mem.specs.Slice.{splice, splice_view, splice_behind}
use Rattle.rules.specs.Removal.{no_point, is_closed, hole_of}
use Rattle.rules.specs.declared.ChainPoint.{ChainPoint}
use Rattle.records.specs.Layout.{point_size, point_words, points_at}
use Rattle.records.specs.Fixed.{point_fixed, fixed_count, fixed_take, fixed_words}
use Rattle.removals.specs.Removing.{ClosedTo}

no_words : point_words no_point ≡ replicate point_size 0
unfolding point_words
no_words = refl

module _ (w : List ℕ) (q n : ℕ) (some : 0 < n) (fits : q + n * point_size ≤ length w) {first last : ChainPoint}
    (f : first ≡ get_or (points_at w q n) 0 no_point) (l : last ≡ get_or (points_at w q n) (n - 1) no_point) where
  chain : List ChainPoint
  chain = points_at w q n

  count : length chain ≡ n
  unfolding chain
  count = fixed_count point_fixed w q n

  ends : (b : Bool) → eqb last.vertex first.vertex ≡ b → is_closed chain ≡ b
  unfolding is_closed chain
  ends b e = rw (fixed_count point_fixed w q n, ← f, ← l) e

  pub stays_open : (last.vertex ≡ first.vertex → ⊥) → ClosedTo w w q n n
  unfolding chain hole_of
  stays_open h =
      let e = ends false (ne_eqb last.vertex first.vertex h) in
      let z : (n - n) * point_size ≡ 0 = omega arith in
      record {
        count = rw e (sym count);
        is = rw (e, z, append-nil, fixed_words point_fixed w q n fits) (sym (splice_view w q (n * point_size)));
        fewer = omega arith;
      }

  pub closes : last.vertex ≡ first.vertex → {u : List ℕ} → u ≡ splice w (q + (n - 1) * point_size) (point_words no_point) → ClosedTo w u q n (n - 1)
  unfolding chain hole_of
  closes h {u} d =
      let e = ends true (eq-eqb last.vertex first.vertex h) in
      let z : (n - (n - 1)) * point_size ≡ point_size = omega arith in
      let t : take (length (points_at w q n) - 1) (points_at w q n) ≡ points_at w q (n - 1) = rw (fixed_count point_fixed w q n) (fixed_take point_fixed w q n (n - 1) (omega arith)) in
      record {
        count = rw (e, t) (sym (fixed_count point_fixed w q (n - 1)));
        is = rw (e, t, z, fixed_words point_fixed w q (n - 1) (omega arith), ← no_words) (d ∙ splice_behind w q ((n - 1) * point_size) (point_words no_point) (omega arith));
        fewer = omega arith;
      }
