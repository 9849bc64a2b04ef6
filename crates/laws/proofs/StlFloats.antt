-- Floats of an STL: what a product of a whole number and a length is, how large its pattern is, and which floats are lengths, as code tests it.
-- Assumes nothing.
-- Key: `product_is_no_nan`, `coordinate_small`; `above_is_length`, `not_above_no_length`.
use Rattle.std.specs.Prelude.{◌≡◌, refl, Bool, true, false, not, cond, ℤ, pos, T, ltb, Float}
use Rattle.std.proofs.Common.{sym, ◌∙◌, true≢false, zero-mul, mul-pos, zero-lt-suc, arith, le-ltb, lt-ltb}
use Prim.Native.Nat.{ℕ, zero, suc, ◌+◌, ◌-◌, ◌*◌, ◌/◌, ◌%◌, ◌^◌, ◌<◌, compare}
use Rattle.std.proofs.Math.Dec.{eqb-suc-zero}
use Rattle.std.specs.Float.{nan, inf, fin, binary32, Format}
use Rattle.std.specs.Float.Ieee.{up, down, round, units, odd, mul, div, lt, of_bits, of_int, is_nan, unlike, low, emax, prec, size, nearest}
use Rattle.std.specs.Float.Ieee.Fits.{mul-fits, up_pos}
use Rattle.std.specs.Float.Ieee.Bits.{to_bits-lt}
use Rattle.rules.specs.Stl.{is_length, coordinate}

-- ---- what is rounded is a number or an infinity

odd_number : (d : ℕ) (s : Bool) (q k l : ℕ) → T (not (is_nan (odd d s q k l)))
unfolding odd is_nan
odd_number d s zero k l = tt
odd_number d s (suc q) k l = tt

number_or_inf : (b s : Bool) (x : Float) → T (not (is_nan x)) → T (not (is_nan (cond b x (inf s))))
unfolding is_nan
number_or_inf true s x h = h
number_or_inf false s x h = tt

units_number : (f : Format) (s : Bool) (q k : ℕ) → T (not (is_nan (units f s q k)))
unfolding units
units_number f s q k =
    number_or_inf (ltb (q * 2 ^ k) (2 ^ (low f + suc (emax f)))) s (odd (suc (prec f)) s q k (low f)) (odd_number (suc (prec f)) s q k (low f))

round_number : (f : Format) (s : Bool) (a b : ℕ) → T (not (is_nan (round f s a b)))
unfolding round
round_number f s a b =
    let n = a * 2 ^ low f in
    let k = size (n / b) - prec f in
    units_number f s (nearest (n / (b * 2 ^ k)) (compare (n % (b * 2 ^ k) * 2) (b * 2 ^ k))) k

-- ---- products

-- a number or an infinity times a length, which is no infinity and no zero
times_length : (x mm : Float) → T (not (is_nan x)) → T (is_length mm) → T (not (is_nan (mul binary32 x mm)))
unfolding mul is_length is_nan
times_length nan mm h l = absurd h
times_length (inf s) nan h l = absurd l
times_length (inf s) (inf t) h l = absurd l
times_length (inf s) (fin true n d) h l = absurd l
times_length (inf s) (fin false zero d) h l = absurd l
times_length (inf s) (fin false (suc n) d) h l = rw (eqb-suc-zero n) tt
times_length (fin s m e) nan h l = absurd l
times_length (fin s m e) (inf t) h l = absurd l
times_length (fin s m e) (fin t n d) h l = round_number binary32 (unlike s t) (m * up e * (n * up d)) (down e * down d)

-- "the whole number times the cell size in millimetres": never a NaN, so that its pattern is fixed
pub product_is_no_nan : (n : ℕ) (mm : Float) → T (is_length mm) → T (not (is_nan (mul binary32 (of_int binary32 (pos n)) mm)))
unfolding of_int
product_is_no_nan n mm l = times_length (of_int binary32 (pos n)) mm (round_number binary32 false n 1) l

-- its pattern has 32 bits
pub coordinate_small : (mm : Float) (n : ℕ) → coordinate mm n < 4294967296
unfolding coordinate
coordinate_small mm n = to_bits-lt binary32 (mul binary32 (of_int binary32 (pos n)) mm) (mul-fits binary32 (of_int binary32 (pos n)) mm)

-- ---- whether a float is a length, as code tests it: 0 < mm, and then mm < 1 / 0

nought_below : (n : ℕ) (e : ℤ) → ltb (0 * down e) (n * up e * 1) ≡ ltb 0 n
nought_below zero e = le-ltb (0 * down e) (0 * up e * 1) (omega (arith, zero-mul (up e)))
nought_below (suc n) e =
    lt-ltb (0 * down e) (suc n * up e * 1) (omega (arith, zero-mul (down e), mul-pos (zero-lt-suc n) (up_pos e))) ∙ sym (lt-ltb 0 (suc n) (zero-lt-suc n))

pub above_is_length : (mm : Float) → lt (of_bits binary32 0) mm ≡ true
    → lt mm (div binary32 (of_bits binary32 0x3f80_0000) (of_bits binary32 0)) ≡ is_length mm
unfolding lt of_bits div is_length
above_is_length nan h = absurd (true≢false (sym h))
above_is_length (inf true) h = absurd (true≢false (sym h))
above_is_length (inf false) h = refl
above_is_length (fin true n e) h = absurd (true≢false (sym h))
above_is_length (fin false n e) h = sym h ∙ nought_below n e

pub not_above_no_length : (mm : Float) → lt (of_bits binary32 0) mm ≡ false → lt (of_bits binary32 0) mm ≡ is_length mm
unfolding lt of_bits is_length
not_above_no_length nan h = refl
not_above_no_length (inf true) h = refl
not_above_no_length (inf false) h = absurd (true≢false h)
not_above_no_length (fin true n e) h = refl
not_above_no_length (fin false n e) h = nought_below n e
