-- Points and sides in a part of the work buffer: one more at either end, and one that takes another's place. Assumes nothing.
use mathlib.Core.Path.{◌≡◌, sym, ap, ◌∙◌}
use mathlib.Core.List.{List, [], ◌∷◌, ◌++◌}
use Prim.Native.Nat.{ℕ, ◌+◌, ◌-◌, ◌*◌, ◌≤◌, ◌<◌}
use native.Mathlib.Omega.{arith}
use lib.ListN.{length, take, get_or}
use Rattle.mem.specs.Slice.{splice, view_same}
use Rattle.mem.specs.Tab.{tab, blocks, length_blocks, blocks_before, blocks_after, blocks_cons, blocks_push, blocks_set}
use Rattle.rules.specs.Lists.{swap_remove}
use Rattle.rules.specs.Removal.{no_side}
use Rattle.rules.specs.declared.Side.{Side}
use Rattle.rules.specs.declared.ChainPoint.{ChainPoint}
use Rattle.records.specs.Layout.{side_size, side_in, side_words, sides_at, point_size, point_in, point_words, points_at}
use Rattle.records.specs.Fixed.{side_fixed, point_fixed, fixed_take}

-- ---- sides

-- words written behind them
pub sides_kept : (w : List ℕ) (p n : ℕ) (ws : List ℕ) → n * side_size ≤ p → sides_at (splice w p ws) 0 n ≡ sides_at w 0 n
unfolding sides_at
sides_kept w p n ws h = blocks_after side_in w p 0 side_size n ws (omega arith)

-- the last takes the place of side i
pub sides_used_lem : (v : List ℕ) (n i : ℕ) → n * side_size ≤ length v → i < n
    → sides_at (splice v (i * side_size) (side_words (get_or (sides_at v 0 n) (n - 1) no_side))) 0 (n - 1) ≡ swap_remove no_side (sides_at v 0 n) i
unfolding sides_at swap_remove
sides_used_lem v n i f h =
    let s = get_or (blocks side_in v 0 side_size n) (n - 1) no_side in
    let z : 0 + i * side_size ≡ i * side_size = omega arith in
    sym (fixed_take side_fixed (splice v (i * side_size) (side_words s)) 0 n (n - 1) (omega arith))
    ∙ rw (length_blocks side_in v 0 side_size n, ← z)
    (ap (take (n - 1)) (blocks_set side_in v 0 side_size n i (side_words s) (side_fixed.sized s) (omega arith) h ∙ rw (side_fixed.back s)))

-- ---- points

-- a side written before them
pub points_kept : (w : List ℕ) (p o n : ℕ) (s : Side) → p + side_size ≤ o → points_at (splice w p (side_words s)) o n ≡ points_at w o n
unfolding points_at
points_kept w p o n s h = blocks_before point_in w p o point_size n (side_words s) (omega (arith, side_fixed.sized s))

module _ (w : List ℕ) (c : ChainPoint) where
  pub point_front : (o p n : ℕ) → p + point_size ≡ o → o ≤ length w → points_at (splice w p (point_words c)) p (n + 1) ≡ c ∷ points_at w o n
  unfolding points_at
  point_front o p n e h =
      blocks_cons point_in (splice w p (point_words c)) p point_size n
      ∙ rw (
        view_same w p point_size (point_words c) (point_fixed.sized c) (omega arith),
        point_fixed.back c,
        e,
        blocks_before point_in w p o point_size n (point_words c) (omega (arith, point_fixed.sized c)),
      )

  pub point_back : (o n : ℕ) → o + n * point_size + point_size ≤ length w
      → points_at (splice w (o + n * point_size) (point_words c)) o (n + 1) ≡ points_at w o n ++ (c ∷ [])
  unfolding points_at
  point_back o n h = blocks_push point_in w o point_size n (point_words c) (point_fixed.sized c) h ∙ rw (point_fixed.back c)

  pub point_first : (o : ℕ) → o + point_size ≤ length w → points_at (splice w o (point_words c)) o 1 ≡ c ∷ []
  unfolding points_at blocks tab
  point_first o h =
      let z : o + 0 * point_size ≡ o = omega arith in
      rw (z, view_same w o point_size (point_words c) (point_fixed.sized c) h, point_fixed.back c)
