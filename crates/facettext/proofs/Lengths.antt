-- How long the text of a coordinate is, and the line of a facet. Assumes nothing.
use mathlib.Core.Path.{◌≡◌}
use mathlib.Core.List.{List, [], ◌∷◌}
use mathlib.Core.Logic.{⊎_elim}
use Prim.Native.Nat.{ℕ, zero, suc, ◌*◌, ◌/◌, ◌^◌, ◌≤◌, ◌<◌}
use native.Mathlib.Nat.{pow-suc}
use native.Mathlib.Omega.{arith}
use lib.ListN.{length, drop, get_or, length-append, length-drop}
use Rattle.mem.specs.Cases.{lt_or_le, by_test}
use Rattle.mem.specs.Packed.{packed}
use Rattle.rules.specs.Lines.{ascii, digits_of, decimal}
use Rattle.rules.specs.StlText.{ten_thousandths, four_digits, decimals, is_shown, is_negative, sign_text, coordinate_text, facet_line}
use Rattle.lines.specs.Printing.{digits_one, digits_more}
use Rattle.facettext.proofs.Powers.{shown_small}
use Rattle.facettext.proofs.Bits.{bits_long}
use Rattle.facettext.proofs.Coordinates.{minus_text, no_sign, shown_text, hidden_text}

-- ---- numbers

-- a number below 10 to the f has at most f digits
digits_few : (g f n : ℕ) → n < 10 ^ suc f → length (digits_of g n) ≤ suc f
unfolding digits_of
digits_few zero f n h = omega arith
digits_few (suc g) zero n h = rw (digits_one g n (omega arith)) (omega arith)
digits_few (suc g) (suc f) n h =
    ⊎_elim
    (λ (a : 9 < n). rw (digits_more g n a)
    (simp length-append (omega (arith, digits_few g f (n / 10) (omega (arith, rw (pow-suc 10 (suc f)) at h))))))
    (λ (a : n ≤ 9). rw (digits_one g n a) (omega arith))
    (lt_or_le 9 n)

decimals_short : (n : ℕ) → n < 10 ^ 20 → length (decimals n) ≤ 21
unfolding decimals decimal four_digits ascii
decimals_short n h = simp length-append (omega (arith, digits_few 20 15 (n / 10000) (omega arith)))

-- ---- coordinates, and the line of a facet

sign_short : (p : ℕ) → length (sign_text p) ≤ 1
sign_short p = by_test (is_negative p) (λ e. rw (minus_text p e) (omega arith)) (λ e. rw (no_sign p e) (omega arith))

pub coordinate_short : (p : ℕ) → length (coordinate_text p) ≤ 22
coordinate_short p =
    by_test (is_shown p)
    (λ e. rw (shown_text p e) (simp length-append (omega (arith, sign_short p, decimals_short (ten_thousandths p) (shown_small p e)))))
    (λ e. rw (hidden_text p e) (omega (arith, bits_long p)))

others_short : (ps : List ℕ) → length (packed (λ p. 9 ∷ coordinate_text p) ps) ≤ 23 * length ps
unfolding packed
others_short [] = omega arith
others_short (p ∷ ps) = simp length-append (omega (arith, coordinate_short p, others_short ps))

pub line_short : (f : List ℕ) → length f ≡ 9 → length (facet_line f) ≤ 207
unfolding facet_line
line_short f e =
    simp (length-append) (omega (arith, coordinate_short (get_or f 0 0), others_short (drop 1 f), length-drop 1 f))
