-- A sheet's cells are lengths: what `rules` states in its file `StlText`. A cell of n thousandths lies between one of 1 and one of 16,777,216, and so do
-- their millimetres, since rounding keeps the order. Assumes nothing.
-- Key: `cells_are_lengths`.
use Rattle.std.specs.Prelude.{ℕ, ◌*◌, ◌≤◌, ◌≡◌, refl, Bool, true, false, pos, T, ltb, Float}
use Rattle.std.proofs.Common.{mul-le-mul_right, arith}
use Rattle.std.specs.Float.{nan, inf, fin, binary32}
use Rattle.std.specs.Float.Ieee.{span, climb, size, odd, units, round, mul, div, le, of_int, of_fields, of_bits}
use Rattle.std.specs.Float.Ieee.Exact.{HasValue}
use Rattle.std.specs.Float.Ieee.Back.{round_whole}
use Rattle.std.specs.Float.Ieee.Order.{round_mono}
use Rattle.std.specs.Float.Ieee.Positive.{num, den, positive, den_pos, value→cross, positive_of_value, between, mul_mono}
use Rattle.rules.specs.Units.{size_in, per_inch, millimetres, thousandths}
use Rattle.rules.specs.Stl.{size_of, height_of, is_length, is_scale}
use Rattle.rules.specs.StlText.{scale_of, CellsAreLengths}

test_true : (b : Bool) → T b → b ≡ true
test_true true t = refl
test_true false t = absurd t

-- what the kit calls positive is a length
positive_length : (x : Float) → T (positive x) → is_length x ≡ true
unfolding is_length
positive_length nan p = absurd p
positive_length (inf s) p = absurd p
positive_length (fin true m e) p = absurd p
positive_length (fin false m e) p = test_true (ltb 0 m) p

-- ---- a number by 1000

-- the float 1000
abbrev thousand : Float
thousand = fin false 125 (pos 3)

thousand_is : of_int binary32 (pos 1000) ≡ thousand
unfolding of_int round units odd size climb span
thousand_is = refl

over_thousand : (x : Float) → T (positive x) → div binary32 x thousand ≡ round binary32 false (num x * 1) (1000 * den x)
unfolding div
over_thousand nan p = absurd p
over_thousand (inf s) p = absurd p
over_thousand (fin true m e) p = absurd p
over_thousand (fin false m e) p = refl

-- the least cell and the greatest
abbrev least : Float
least = round binary32 false 1 1000

abbrev greatest : Float
greatest = round binary32 false 16777216 1000

least_positive : T (positive least)
unfolding round units odd size climb span
least_positive = tt

greatest_positive : T (positive greatest)
unfolding round units odd size climb span
greatest_positive = tt

-- a value between them
record Ranged (x : Float) : Type 0 where
  low : T (le least x)
  high : T (le x greatest)

module _ (x : Float) (n : ℕ) (a : 1 ≤ n) (b : n ≤ 16777216) (v : HasValue x false n 1) where
  ratio : num x * 1 ≡ n * den x
  ratio = value→cross x n 1 v

  quotient_ranged : Ranged (round binary32 false (num x * 1) (1000 * den x))
  quotient_ranged = record {
    low = round_mono binary32 1 1000 (num x * 1) (1000 * den x) (omega arith) (omega (arith, den_pos x)) (omega (arith, ratio, mul-le-mul_right (den x) a));
    high = round_mono binary32 (num x * 1) (1000 * den x) 16777216 1000 (omega (arith, den_pos x)) (omega arith)
        (omega (arith, ratio, mul-le-mul_right (den x) b));
  }

cell_ranged : (n : ℕ) → 1 ≤ n → n ≤ 16777216 → Ranged (thousandths n)
unfolding thousandths of_int
cell_ranged n a b =
    let x = round binary32 false n 1 in
    let v : HasValue (round binary32 false n 1) false n 1 = round_whole binary32 false n b in
    rw (thousand_is, over_thousand x (positive_of_value x n 1 v (omega arith))) (quotient_ranged x n a b v)

-- ---- in millimetres

ranged_positive : (x : Float) → Ranged x → T (positive x)
ranged_positive x r = between least x greatest least_positive greatest_positive r.low r.high

inch_positive : T (positive per_inch)
unfolding per_inch of_bits of_fields odd
inch_positive = tt

inch_same : T (le per_inch per_inch)
unfolding le per_inch of_bits of_fields odd
inch_same = tt

least_inch : T (positive (mul binary32 least per_inch))
unfolding mul per_inch of_bits of_fields round units odd size climb span
least_inch = tt

greatest_inch : T (positive (mul binary32 greatest per_inch))
unfolding mul per_inch of_bits of_fields round units odd size climb span
greatest_inch = tt

length_of : (inches : Bool) (x : Float) → Ranged x → is_length (millimetres (size_in inches x)) ≡ true
unfolding millimetres size_in
length_of false x r = positive_length x (ranged_positive x r)
length_of true x r =
    let p = ranged_positive x r in
    positive_length (mul binary32 x per_inch)
    (between (mul binary32 least per_inch) (mul binary32 x per_inch) (mul binary32 greatest per_inch) least_inch greatest_inch
    (mul_mono binary32 least x per_inch per_inch least_positive p inch_positive inch_positive r.low inch_same)
    (mul_mono binary32 x greatest per_inch per_inch p greatest_positive inch_positive inch_positive r.high inch_same))

pub cells_are_lengths : CellsAreLengths
unfolding is_scale size_of height_of scale_of
cells_are_lengths inches size height a b c d =
    rw (length_of inches (thousandths size) (cell_ranged size a b), length_of inches (thousandths height) (cell_ranged height c d)) refl
