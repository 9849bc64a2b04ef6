-- The loop that writes the digits of a number from the last one on: what the number's text is, is the text of the rest and then the digits that are written.
-- The rest has as many digits as there are places left, and so the places suffice. Assumes nothing.
use mathlib.Core.Path.{◌≡◌, refl, sym, ◌∙◌}
use mathlib.Core.List.{List, ◌∷◌, ◌++◌, append-nil}
use Prim.Native.Nat.{ℕ, zero, suc, ◌+◌, ◌-◌, ◌*◌, ◌/◌, ◌%◌, ◌^◌, ◌≤◌, ◌<◌}
use native.Mathlib.Nat.{pow-suc}
use native.Mathlib.Numerals.{add-one}
use native.Mathlib.Omega.{arith}
use lib.ListN.{length, take, drop, set, length-set, length-drop, drop_of_length-le}
use lib.Seq.{drop-cons, get_or-set_same, drop-set-lt, append_snoc, take_all}
use Rattle.rules.specs.Lines.{digits_of, decimal}
use Rattle.lines.specs.Printing.{digits_one, digits_more}

-- ---- the digits that are written

-- the last of them, in front of the others
drop_set : (l : List ℕ) (i x : ℕ) → i < length l → drop i (set l i x) ≡ x ∷ drop (i + 1) l
drop_set l i x h =
    drop-cons (set l i x) i 0 (rw length-set h) ∙ rw (get_or-set_same l i x 0 h, add-one i, drop-set-lt (suc i) l i x (omega arith)) refl

-- `whole` is the number's text, `digits` the 20 places, from `first` + 1 on written, and `rest` what is left of the number
pub record Left (whole digits : List ℕ) (first rest : ℕ) : Type 0 where
  pub long : length digits ≡ 20
  pub place : first < 20
  pub small : rest < 10 ^ (first + 1)
  pub same : whole ≡ digits_of (first + 1) rest ++ drop (first + 1) digits

-- nothing is written
pub left_all : (n : ℕ) (digits : List ℕ) → length digits ≡ 20 → n < 2 ^ 64 → Left (decimal n) digits 19 n
unfolding decimal
left_all n digits h k =
    record {
      long = h;
      place = omega arith;
      small = omega arith;
      same = rw (drop_of_length-le digits {i = 20} (omega arith)) (sym (append-nil (digits_of 20 n)));
    }

module _ {whole digits : List ℕ} {first rest : ℕ} (l : Left whole digits first rest) where
  -- there is a place in front
  pub left_place : 9 < rest → 0 < first
  left_place h = front first l.small
    where
      front : (f : ℕ) → rest < 10 ^ (f + 1) → 0 < f
      front zero k = absurd (omega arith)
      front (suc f) k = omega arith

  -- one digit more
  pub left_more : (x : ℕ) → 9 < rest → x ≡ 48 + rest % 10 → Left whole (set digits first x) (first - 1) (rest / 10)
  left_more x h e =
      let z : first - 1 + 1 ≡ first = omega (arith, left_place h) in
      let p : 10 ^ (first + 1) ≡ 10 ^ first * 10 = rw (add-one first) (pow-suc 10 first) in
      record {
        long = length-set digits first x ∙ l.long;
        place = omega (arith, l.place);
        small = rw z (omega (arith, l.small));
        same =
            l.same
            ∙ rw (z, drop_set digits first x (omega (arith, l.long, l.place)), e, add-one first, digits_more first rest h)
            (append_snoc (digits_of first (rest / 10)) (48 + rest % 10) (drop (suc first) digits));
      }

  -- the first digit: what stands from it on is the text
  pub left_end : (x : ℕ) → rest ≤ 9 → x ≡ 48 + rest → take (20 - first) (drop first (set digits first x)) ≡ whole
  left_end x h e =
      take_all (20 - first) (drop first (set digits first x)) (simp (length-drop, length-set) (omega (arith, l.long)))
      ∙ drop_set digits first x (omega (arith, l.long, l.place))
      ∙ rw (e, l.same, add-one first, digits_one first rest h) refl
