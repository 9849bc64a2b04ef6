-- Powers, and what they make of a coordinate: its ten-thousandths, rounded to the nearest, by the power of two that its significand counts. Assumes nothing.
-- Key: `great_made`, `small_made`, `tiny_made`: the three cases; `shown_small`: how great they get.
use mathlib.Core.Path.{◌≡◌, refl, sym, ap, ◌∙◌}
use mathlib.Core.Bool.{Bool, true, false, cond}
use Prim.Native.Nat.{ℕ, zero, suc, ◌+◌, ◌-◌, ◌*◌, ◌/◌, ◌%◌, ◌^◌, ◌≤◌, ◌<◌}
use native.Mathlib.Nat.{zero-add, suc-add, mul_assoc, mul-le-mul, lt_of_le_of_lt, pow-zero, pow-suc, pow-le-pow_right, one-le-pow}
use native.Mathlib.Nat.{mul-add-div_right, mul-div-mul_right, div-eq_of_lt, div-lt_iff_lt-mul}
use native.Mathlib.Numerals.{add-one}
use native.Mathlib.Omega.{arith}
use lib.Dec.{eqb}
use borrow.Author.Tests.{ltb-true}
use Rattle.rules.specs.StlText.{exponent_of, fraction_of, significand, power_of, ten_thousandths, is_shown}

-- ---- powers

pub pow_add : (b m n : ℕ) → b ^ (m + n) ≡ b ^ m * b ^ n
pow_add b zero n = rw (zero-add n, pow-zero b) (omega arith)
pow_add b (suc m) n = rw (suc-add m n, pow-suc b (m + n), pow-suc b m, pow_add b m n) (omega arith)

pub pow_more : (b i : ℕ) → b ^ (i + 1) ≡ b ^ i * b
pow_more b i = rw (add-one i) (pow-suc b i)

pub two_pow_most : (i n : ℕ) → i ≤ n → 2 ^ i ≤ 2 ^ n
two_pow_most i n h = pow-le-pow_right (omega arith) h

pub two_pow_some : (i : ℕ) → 0 < 2 ^ i
two_pow_some i = one-le-pow i 2 (omega arith)

-- a half is less than the whole
two_pow_half : (i : ℕ) → 2 ^ i < 2 ^ (i + 1)
two_pow_half i = omega (arith, pow_more 2 i, two_pow_some i)

-- ---- a number n of 2 to the e, over 2 to the 150 and rounded

halved : (x b h : ℕ) → h < b → (x * b + h) / b ≡ x
halved x b h l = mul-add-div_right (omega arith) x h ∙ rw (div-eq_of_lt l) (omega arith)

-- e is great: it is whole
great_whole : (n e : ℕ) → 150 ≤ e → (n * 2 ^ e + 2 ^ 149) / 2 ^ 150 ≡ n * 2 ^ (e - 150)
great_whole n e h =
    let k : e ≡ e - 150 + 150 = omega arith in
    let p : 2 ^ e ≡ 2 ^ (e - 150) * 2 ^ 150 = ap (λ (i : ℕ). 2 ^ i) k ∙ pow_add 2 (e - 150) 150 in
    let q : n * 2 ^ e ≡ n * 2 ^ (e - 150) * 2 ^ 150 = rw p (sym (mul_assoc n (2 ^ (e - 150)) (2 ^ 150))) in
    rw q (halved (n * 2 ^ (e - 150)) (2 ^ 150) (2 ^ 149) (two_pow_half 149))

-- e is less: both are counted in 2 to the e
small_rounded : (n e d : ℕ) → e + d ≡ 150 → 1 ≤ d → (n * 2 ^ e + 2 ^ 149) / 2 ^ 150 ≡ (n + 2 ^ (d - 1)) / 2 ^ d
small_rounded n e d s h =
    let k : 149 ≡ d - 1 + e = omega arith in
    let l : 150 ≡ d + e = omega arith in
    let p : 2 ^ 149 ≡ 2 ^ (d - 1) * 2 ^ e = ap (λ (i : ℕ). 2 ^ i) k ∙ pow_add 2 (d - 1) e in
    let q : 2 ^ 150 ≡ 2 ^ d * 2 ^ e = ap (λ (i : ℕ). 2 ^ i) l ∙ pow_add 2 d e in
    let r : n * 2 ^ e + 2 ^ 149 ≡ (n + 2 ^ (d - 1)) * 2 ^ e = rw p (omega arith) in
    ap (λ (x : ℕ). x / 2 ^ 150) r ∙ ap (λ (x : ℕ). (n + 2 ^ (d - 1)) * 2 ^ e / x) q ∙ mul-div-mul_right (n + 2 ^ (d - 1)) (2 ^ d) (two_pow_some e)

-- far less: it is below a half
tiny_none : (n d : ℕ) → n < 2 ^ 40 → 41 ≤ d → (n + 2 ^ (d - 1)) / 2 ^ d ≡ 0
tiny_none n d h l =
    let k : d - 1 + 1 ≡ d = omega arith in
    let p : 2 ^ d ≡ 2 ^ (d - 1) * 2 = ap (λ (i : ℕ). 2 ^ i) (sym k) ∙ pow_more 2 (d - 1) in
    div-eq_of_lt (omega (arith, p, two_pow_most 40 (d - 1) (omega arith)))

-- ---- the parts of a pattern

pub significand_small : (p : ℕ) → significand p ≤ 16777215
unfolding significand fraction_of
significand_small p = by_first (eqb (exponent_of p) 0)
  where
    by_first : (b : Bool) → cond b (p % 8388608) (8388608 + p % 8388608) ≤ 16777215
    by_first true = omega arith
    by_first false = omega arith

pub power_most : (p : ℕ) → is_shown p ≡ true → power_of p ≤ 176
unfolding power_of is_shown
power_most p h = let l = ltb-true (exponent_of p) 177 h in by_first (exponent_of p) l (eqb (exponent_of p) 0)
  where
    by_first : (e : ℕ) → e < 177 → (b : Bool) → cond b 1 e ≤ 176
    by_first e l true = omega arith
    by_first e l false = omega arith

-- ---- ten-thousandths, by a pattern's significand s and its power e

module _ (p : ℕ) {s e : ℕ} (is-s : s ≡ significand p) (is-e : e ≡ power_of p) where
  made : ten_thousandths p ≡ (s * 10000 * 2 ^ e + 2 ^ 149) / 2 ^ 150
  unfolding ten_thousandths
  made = rw (is-s, is-e) refl

  pub great_made : {t : ℕ} → 150 ≤ e → t ≡ 2 ^ (e - 150) → s * 10000 * t ≡ ten_thousandths p
  great_made h a = rw a (sym (made ∙ great_whole (s * 10000) e h))

  pub small_made : {d t u : ℕ} → e + d ≡ 150 → 1 ≤ d → t ≡ 2 ^ (d - 1) → u ≡ 2 ^ d → (s * 10000 + t) / u ≡ ten_thousandths p
  small_made {d} h l a b = rw (a, b) (sym (made ∙ small_rounded (s * 10000) e d h l))

  pub tiny_made : {d : ℕ} → e + d ≡ 150 → 41 ≤ d → 0 ≡ ten_thousandths p
  tiny_made {d} h l = sym (made ∙ small_rounded (s * 10000) e d h (omega arith) ∙ tiny_none (s * 10000) d (omega (arith, significand_small p)) l)

-- they fit 64 bits
pub great_fits : (n e : ℕ) → n ≤ 167772150000 → e ≤ 176 → n * 2 ^ (e - 150) < 18446744073709551616
great_fits n e h l = omega (arith, mul-le-mul h (two_pow_most (e - 150) 26 (omega arith)))

-- a number that is shown has at most 16 digits in front of the point
below : (x b h m : ℕ) → x ≤ m * b → h < b → (x + h) / b ≤ m
below x b h m l a =
    let k : x + h < (m + 1) * b = omega arith in
    let p : 0 < b = omega arith in
    omega (arith, (div-lt_iff_lt-mul {k = b} {x = x + h} {y = m + 1} p).1 k)

most_shown : 167772150000 * 2 ^ 26 < 10 ^ 20
most_shown = omega arith

pub shown_small : (p : ℕ) → is_shown p ≡ true → ten_thousandths p < 10 ^ 20
unfolding ten_thousandths
shown_small p h =
    let n : significand p * 10000 ≤ 167772150000 = omega (arith, significand_small p) in
    let x = mul-le-mul n (two_pow_most (power_of p) 176 (power_most p h)) in
    let e : 167772150000 * 2 ^ 176 ≡ 167772150000 * 2 ^ 26 * 2 ^ 150 = refl in
    lt_of_le_of_lt (below (significand p * 10000 * 2 ^ power_of p) (2 ^ 150) (2 ^ 149) (167772150000 * 2 ^ 26) (rw e at x) (two_pow_half 149)) most_shown
