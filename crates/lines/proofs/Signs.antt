-- A signed number of 64 bits as the code takes its sign off: one more than z, that negated, and one more again, so that the least number has its digits too.
-- Each step is followed from the bits to the number that they are. Assumes nothing.
use mathlib.Core.Path.{◌≡◌, refl, sym, ap, ◌∙◌, subst}
use mathlib.Core.Bool.{true, false, true≢false}
use mathlib.Core.List.{◌∷◌}
use Prim.Native.Nat.{ℕ, zero, suc, ◌+◌, ◌^◌, ◌<◌}
use native.Mathlib.Numerals.{add-one}
use native.Mathlib.Omega.{arith}
use borrow.Author.Tests.{ltb-true}
use lib.IntN.{ℤ, pos, negsuc, neg_ℤ, ◌+ℤ◌, ◌-ℤ◌, +ℤ_one, +ℤ_idl, neg_ℤ-neg_ℤ}
use lib.Signed.{lt_z}
use mir.Syntax.{w64}
use mir.Val.{SFits, to_z, of_z}
use mir.Facts.{to_z-of_z}
use Rattle.rules.specs.Lines.{decimal, signed}

above_is : (k : ℕ) → negsuc k +ℤ pos 1 ≡ neg_ℤ (pos k)
above_is zero = refl
above_is (suc k) = +ℤ_one (negsuc (suc k))

flipped_is : (k : ℕ) → pos 0 -ℤ neg_ℤ (pos k) ≡ pos k
flipped_is k = +ℤ_idl (neg_ℤ (neg_ℤ (pos k))) ∙ neg_ℤ-neg_ℤ (pos k)

pub neg_fits : (k : ℕ) → SFits w64 (pos k) → SFits w64 (neg_ℤ (pos k))
neg_fits zero h = h
neg_fits (suc k) h = record { sfits = omega (arith, h.sfits) }

-- the bits n are those of a number below zero, -(k + 1): each step fits, and they end with k
pub record Below (n : ℕ) (z : ℤ) : Type 0 where
  pub k : ℕ
  pub above_fits : SFits w64 (to_z w64 n +ℤ pos 1)
  pub flipped_fits : SFits w64 (pos 0 -ℤ to_z w64 (of_z w64 (to_z w64 n +ℤ pos 1)))
  pub reads : to_z w64 (of_z w64 (pos 0 -ℤ to_z w64 (of_z w64 (to_z w64 n +ℤ pos 1)))) ≡ pos k
  pub small : k < 2 ^ 63
  pub text : signed z ≡ 45 ∷ decimal (k + 1)

below_at : (n k : ℕ) → SFits w64 (negsuc k) → to_z w64 n ≡ negsuc k → Below n (negsuc k)
unfolding signed
below_at n k h e =
    let s : SFits w64 (pos k) = record { sfits = h.sfits } in
    let p : to_z w64 n +ℤ pos 1 ≡ neg_ℤ (pos k) = ap (λ (y : ℤ). y +ℤ pos 1) e ∙ above_is k in
    let f : SFits w64 (to_z w64 n +ℤ pos 1) = subst (SFits w64) (sym p) (neg_fits k s) in
    let q : pos 0 -ℤ to_z w64 (of_z w64 (to_z w64 n +ℤ pos 1)) ≡ pos k = ap (λ (y : ℤ). pos 0 -ℤ y) (to_z-of_z f ∙ p) ∙ flipped_is k in
    let g : SFits w64 (pos 0 -ℤ to_z w64 (of_z w64 (to_z w64 n +ℤ pos 1))) = subst (SFits w64) (sym q) s in
    record {
      k = k;
      above_fits = f;
      flipped_fits = g;
      reads = to_z-of_z g ∙ q;
      small = h.sfits;
      text = ap (λ (m : ℕ). 45 ∷ decimal m) (sym (add-one k));
    }

-- the bits n are those of k
pub record NotBelow (n : ℕ) (z : ℤ) : Type 0 where
  pub k : ℕ
  pub reads : to_z w64 n ≡ pos k
  pub small : k < 2 ^ 63
  pub text : signed z ≡ decimal k

module _ {z : ℤ} {n : ℕ} (h : SFits w64 z) (b : n ≡ of_z w64 z) where
  pub below : lt_z (to_z w64 n) (pos 0) ≡ true → Below n z
  below e = split z h (ap (to_z w64) b ∙ to_z-of_z h)
    where
      split : (y : ℤ) → SFits w64 y → to_z w64 n ≡ y → Below n y
      split (pos m) f r = absurd (omega (arith, ltb-true m 0 (sym (ap (λ (x : ℤ). lt_z x (pos 0)) r) ∙ e)))
      split (negsuc m) f r = below_at n m f r

  pub not_below : lt_z (to_z w64 n) (pos 0) ≡ false → NotBelow n z
  unfolding signed
  not_below e = split z h (ap (to_z w64) b ∙ to_z-of_z h)
    where
      split : (y : ℤ) → SFits w64 y → to_z w64 n ≡ y → NotBelow n y
      split (pos m) f r = record { k = m; reads = r; small = f.sfits; text = refl }
      split (negsuc m) f r = absurd (true≢false (sym (ap (λ (x : ℤ). lt_z x (pos 0)) r) ∙ e))
