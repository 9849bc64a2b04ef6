-- The loop over the digits of a cell: the answer of the whole is that of the digits that are left, v being what the others say. A number that has grown above
-- its limit stays above. Assumes nothing.
use Rattle.std.specs.Prelude.{Option, Some, None}
use Rattle.std.specs.Char.{is_ascii_digit}
use mathlib.Core.Path.{◌≡◌, refl, sym, ap, ◌∙◌}
use mathlib.Core.Bool.{Bool, true, false, ◌&&◌, not, cond, and-true, and-false, or-true}
use mathlib.Core.List.{List, [], ◌∷◌}
use mathlib.Core.Logic.{◌≢◌}
use Prim.Native.Nat.{ℕ, ◌+◌, ◌-◌, ◌*◌, ◌≤◌, ◌<◌}
use native.Mathlib.Omega.{arith}
use lib.Dec.{eqb, leb}
use lib.ListN.{length, drop, get_or, drop_of_length-le}
use borrow.Author.Tests.{eq-eqb, ne_eqb, le-leb, lt-leb}
use Rattle.rules.specs.Lines.{is_empty, is_digit, are_digits, is_decimal, value_from, decimal_in}
use Rattle.lines.proofs.Scanning.{drop_next}

-- the number of a cell, if the digits ds are left of it and v is what those before them say
unfoldable pub rest_in : ℕ → ℕ → ℕ → List ℕ → Option ℕ
rest_in least most v ds = cond (are_digits ds && (leb least (value_from v ds) && leb (value_from v ds) most)) (Some (value_from v ds)) None

value_most : (v : ℕ) (ds : List ℕ) → v ≤ value_from v ds
unfolding value_from
value_most v [] = omega arith
value_most v (c ∷ cs) = omega (arith, value_most (v * 10 + (c - 48)) cs)

module _ (least most v : ℕ) where
  rest_large : (ds : List ℕ) → most < v → rest_in least most v ds ≡ None
  unfolding rest_in
  rest_large ds h = rw (lt-leb (value_from v ds) most (omega (arith, value_most v ds)), and-false, and-false) refl

  rest_other : (c : ℕ) (cs : List ℕ) → is_digit c ≡ false → rest_in least most v (c ∷ cs) ≡ None
  unfolding rest_in are_digits
  rest_other c cs e = rw (e, are_digits) refl

  rest_digit : (c : ℕ) (cs : List ℕ) → is_digit c ≡ true → rest_in least most v (c ∷ cs) ≡ rest_in least most (v * 10 + (c - 48)) cs
  unfolding rest_in are_digits value_from
  rest_digit c cs e = rw (e, are_digits) refl

-- as the code asks for it
pub as_asked : (c : ℕ) {t : Bool} → t ≡ is_ascii_digit c → is_digit c ≡ t
unfolding is_digit
as_asked c e = sym e

pub record Reading (least most : ℕ) (cell : List ℕ) (v i : ℕ) : Type 0 where
  pub same : decimal_in least most cell ≡ rest_in least most v (drop i cell)
  pub small : v ≤ most

module _ (least most : ℕ) where
  pub no_digits : (cell : List ℕ) → length cell ≡ 0 → decimal_in least most cell ≡ None
  unfolding decimal_in is_decimal
  no_digits [] h = refl
  no_digits (c ∷ cs) h = absurd (omega arith)

  pub leading_zero : (cell : List ℕ) → get_or cell 0 0 ≡ 48 → 1 < length cell → decimal_in least most cell ≡ None
  unfolding decimal_in is_decimal is_empty
  leading_zero [] e h = absurd (omega arith)
  leading_zero (c ∷ []) e h = absurd (omega arith)
  leading_zero (c ∷ (d ∷ ds)) e h = rw (eq-eqb c 48 e, and-false) refl

  -- a zero in front is all, or there is none
  pub reading_zero : (cell : List ℕ) → length cell ≢ 0 → length cell ≤ 1 → Reading least most cell 0 0
  unfolding decimal_in is_decimal is_empty rest_in
  reading_zero [] n h = absurd (n refl)
  reading_zero (c ∷ []) n h = record { same = rw (or-true (not (eqb c 48)), and-true) refl; small = omega arith }
  reading_zero (c ∷ (d ∷ ds)) n h = absurd (omega arith)

  pub reading_begin : (cell : List ℕ) → length cell ≢ 0 → get_or cell 0 0 ≢ 48 → Reading least most cell 0 0
  unfolding decimal_in is_decimal rest_in
  reading_begin [] n h = absurd (n refl)
  reading_begin (c ∷ cs) n h = record { same = rw (ne_eqb c 48 h, and-true) refl; small = omega arith }

module _ {least most : ℕ} {cell : List ℕ} {v i : ℕ} (r : Reading least most cell v i) where
  module _ (h : i < length cell) where
    pub reading_other : is_digit (get_or cell i 0) ≡ false → decimal_in least most cell ≡ None
    reading_other e = r.same ∙ ap (rest_in least most v) (drop_next cell i h) ∙ rest_other least most v (get_or cell i 0) (drop (i + 1) cell) e

    module _ (e : is_digit (get_or cell i 0) ≡ true) where
      turn : decimal_in least most cell ≡ rest_in least most (v * 10 + (get_or cell i 0 - 48)) (drop (i + 1) cell)
      turn = r.same ∙ ap (rest_in least most v) (drop_next cell i h) ∙ rest_digit least most v (get_or cell i 0) (drop (i + 1) cell) e

      pub reading_large : most < v * 10 + (get_or cell i 0 - 48) → decimal_in least most cell ≡ None
      reading_large k = turn ∙ rest_large least most (v * 10 + (get_or cell i 0 - 48)) (drop (i + 1) cell) k

      pub reading_next : {n : ℕ} → n ≡ v * 10 + (get_or cell i 0 - 48) → n ≤ most → Reading least most cell n (i + 1)
      reading_next q k = rw q record { same = turn; small = omega arith }

  module _ (h : length cell ≤ i) where
    done : decimal_in least most cell ≡ rest_in least most v []
    done = r.same ∙ ap (rest_in least most v) (drop_of_length-le cell {i = i} h)

    pub reading_below : v < least → decimal_in least most cell ≡ None
    unfolding rest_in are_digits value_from
    reading_below k = done ∙ rw (lt-leb least v k) refl

    pub reading_value : least ≤ v → decimal_in least most cell ≡ Some v
    unfolding rest_in are_digits value_from
    reading_value k = done ∙ rw (le-leb least v k, le-leb v most r.small) refl
