-- The masks of an index word as arithmetic: what `is_marked` tests. Assumes nothing.
use mathlib.Core.Path.{◌≡◌, sym, ap, ◌∙◌}
use mathlib.Core.Bool.{not}
use mathlib.Core.Logic.{⊎_elim}
use Prim.Native.Nat.{ℕ, ◌*◌, ◌/◌, ◌%◌, ◌^◌, ◌≤◌, ◌<◌}
use native.Mathlib.Omega.{arith}
use lib.Bits.{bit_and, and_high}
use lib.Dec.{eqb, leb}
use borrow.Author.Tests.{le-leb, lt-leb}
use Rattle.mem.specs.Cases.{lt_or_le}

-- the top bit of a 32-bit word is set exactly in the words from 2 ^ 31 on
pub top_bit : (w : ℕ) → w < 2 ^ 32 → not (eqb (bit_and w (2 ^ 31)) 0) ≡ leb (2 ^ 31) w
top_bit w h = rw (and_high w 1 31) (⊎_elim
    (λ (l : w < 2 ^ 31). let q : w / 2 ^ 31 ≡ 0 = omega arith in ap (λ (n : ℕ). not (eqb (n % 2 * 2 ^ 31) 0)) q ∙ sym (lt-leb (2 ^ 31) w l))
    (λ (g : 2 ^ 31 ≤ w). let q : w / 2 ^ 31 ≡ 1 = omega arith in ap (λ (n : ℕ). not (eqb (n % 2 * 2 ^ 31) 0)) q ∙ sym (le-leb (2 ^ 31) w g))
    (lt_or_le w (2 ^ 31)))
