-- A pattern printed by its bits: what the loop over its eight hex digits keeps, and what it leaves. Assumes nothing.
use mathlib.Core.Path.{◌≡◌, refl, ap, ◌∙◌}
use mathlib.Core.List.{List}
use Prim.Native.Nat.{ℕ, suc, ◌+◌, ◌-◌, ◌/◌, ◌%◌, ◌^◌, ◌≤◌, ◌<◌}
use native.Mathlib.Nat.{mul-div_cancel, one-le-pow}
use native.Mathlib.Omega.{arith}
use lib.ListN.{length, set}
use Rattle.mem.specs.Tab.{tab, length_tab, Filled, filled_none, filled_more, filled_all}
use Rattle.rules.specs.Lines.{ascii}
use Rattle.rules.specs.StlText.{hex_digit, bits_text}
use Rattle.lines.specs.Print.{Printed}
use Rattle.lines.specs.Printing.{printed_one, printed_then}
use Rattle.facettext.proofs.Powers.{pow_more}

-- digit k, the highest first
abbrev pub digit_at : ℕ → ℕ → ℕ
digit_at p k = hex_digit (p / 16 ^ (7 - k) % 16)

pub bits_long : (p : ℕ) → length (bits_text p) ≡ 9
unfolding bits_text ascii
bits_long p = ap suc (length_tab (digit_at p) 8)

-- i digits are printed behind the mark at `at`, and `shift` is what the next one counts
pub record Bits (v : List ℕ) (at p : ℕ) (w : List ℕ) (shift i : ℕ) : Type 0 where
  pub filled : Filled v (at + 1) (digit_at p) 8 w i
  pub shifted : i < 8 → shift ≡ 16 ^ (7 - i)

pub bits_none : (v : List ℕ) (at p : ℕ) → Bits v at p v 268435456 0
bits_none v at p = record { filled = filled_none v (at + 1) (digit_at p) 8; shifted = λ h. refl }

module _ {v : List ℕ} {at p : ℕ} {w : List ℕ} {shift i : ℕ} (b : Bits v at p w shift i) where
  pub bits_some : i < 8 → 0 < shift
  bits_some h = rw (b.shifted h) (one-le-pow (7 - i) 16 (omega arith))

  next : i + 1 < 8 → shift / 16 ≡ 16 ^ (7 - (i + 1))
  next h =
      let k : 7 - i ≡ 7 - (i + 1) + 1 = omega arith in
      ap (λ (s : ℕ). s / 16) (b.shifted (omega arith) ∙ ap (λ (j : ℕ). 16 ^ j) k ∙ pow_more 16 (7 - (i + 1)))
      ∙ mul-div_cancel (16 ^ (7 - (i + 1))) (omega arith)

  pub bits_more : {x : ℕ} → i < 8 → x ≡ hex_digit (p / shift % 16) → Bits v at p (set w (at + 1 + i) x) (shift / 16) (i + 1)
  bits_more {x} h e =
      record {
        filled = filled_more b.filled (at + 1 + i) x refl (e ∙ ap (λ (s : ℕ). hex_digit (p / s % 16)) (b.shifted h)) h;
        shifted = next;
      }

-- the mark is in front of them
pub bits_printed : {u : List ℕ} {at p : ℕ} {w : List ℕ} {shift i : ℕ} → Bits (set u at 35) at p w shift i → 8 ≤ i → Printed (bits_text p) u w at (at + 9)
unfolding bits_text ascii
bits_printed {u} {at} {p} {w} b h =
    let q : Printed (tab (digit_at p) 8) (set u at 35) w (at + 1) (at + 9) =
    record { text = filled_all b.filled h; next = rw (length_tab (digit_at p) 8) (omega arith) } in
    printed_then (printed_one u at 35) q
