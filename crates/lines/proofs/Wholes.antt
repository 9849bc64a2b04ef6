-- A cell as a whole number: `-` and a decimal, or a decimal alone. The number fits 64 bits with its sign, and so the bits say it. Assumes nothing.
use Rattle.std.specs.Prelude.{Option, Some, None}
use mathlib.Core.Path.{◌≡◌, refl, sym, ap, ◌∙◌, subst}
use mathlib.Core.List.{List, [], ◌∷◌}
use mathlib.Core.Logic.{◌≢◌}
use Prim.Native.Nat.{ℕ, ◌-◌, ◌≤◌, ◌<◌}
use native.Mathlib.Omega.{arith}
use borrow.Author.Tests.{eq-eqb, ne_eqb}
use lib.IntN.{ℤ, pos, neg_ℤ, ◌-ℤ◌, +ℤ_idl}
use lib.ListN.{length, get_or}
use lib.Seq.{take_all}
use mir.Syntax.{w64}
use mir.Val.{SFits, to_z, of_z}
use mir.Facts.{to_z-of_z}
use Rattle.ints.specs.Machine.{reads_nat}
use Rattle.mem.specs.Slice.{view}
use Rattle.rules.specs.Lines.{is_decimal, decimal_in, whole_from, signed_in}
use Rattle.lines.specs.Taken.{value_in}
use Rattle.lines.proofs.Signs.{neg_fits}

-- ---- which of the two a cell is
module _ (most : ℕ) where
  minus_cons : (c : ℕ) (cs : List ℕ) → c ≡ 45 → signed_in most (c ∷ cs) ≡ whole_from (λ n. neg_ℤ (pos n)) (decimal_in 1 most cs)
  unfolding signed_in
  minus_cons c cs e = rw (eq-eqb c 45 e, signed_in) refl

  plain_cons : (c : ℕ) (cs : List ℕ) → c ≢ 45 → signed_in most (c ∷ cs) ≡ whole_from pos (decimal_in 0 most (c ∷ cs))
  unfolding signed_in
  plain_cons c cs e = rw (ne_eqb c 45 e, signed_in) refl

  with_minus : (cell : List ℕ) → 0 < length cell → get_or cell 0 0 ≡ 45
      → signed_in most cell ≡ whole_from (λ n. neg_ℤ (pos n)) (decimal_in 1 most (view cell 1 (length cell - 1)))
  with_minus [] h e = absurd (omega arith)
  with_minus (c ∷ cs) h e =
      let q : view (c ∷ cs) 1 (length (c ∷ cs) - 1) ≡ cs = take_all (length (c ∷ cs) - 1) cs (omega arith) in
      minus_cons c cs e ∙ ap (λ (l : List ℕ). whole_from (λ n. neg_ℤ (pos n)) (decimal_in 1 most l)) (sym q)

  without : (cell : List ℕ) → (0 < length cell → get_or cell 0 0 ≢ 45) → signed_in most cell ≡ whole_from pos (decimal_in 0 most cell)
  unfolding signed_in whole_from decimal_in is_decimal
  without [] h = refl
  without (c ∷ cs) h = plain_cons c cs (h (omega arith))

-- ---- what its decimal makes of it
pub value_fits : (least most : ℕ) {n : ℕ} (cell : List ℕ) → most ≤ 9223372036854775807 → {d : Option ℕ} → d ≡ decimal_in least most cell → d ≡ Some n
    → SFits w64 (pos n)
value_fits least most {n} cell h e q = record { sfits = omega (arith, value_in least most n cell (sym e ∙ q)) }

said : {n : ℕ} → SFits w64 (pos n) → to_z w64 n ≡ pos n
said f = (reads_nat {w = w64} f.sfits).reads

turned : {n : ℕ} → SFits w64 (pos n) → pos 0 -ℤ to_z w64 n ≡ neg_ℤ (pos n)
turned {n} f = ap (λ (z : ℤ). pos 0 -ℤ z) (said f) ∙ +ℤ_idl (neg_ℤ (pos n))

pub turned_fits : {n : ℕ} → SFits w64 (pos n) → SFits w64 (pos 0 -ℤ to_z w64 n)
turned_fits {n} f = subst (SFits w64) (sym (turned f)) (neg_fits n f)

module _ (most : ℕ) (cell : List ℕ) where
  -- behind `-`
  module _ (h : 0 < length cell) (e : get_or cell 0 0 ≡ 45) {d : Option ℕ} (q : d ≡ decimal_in 1 most (view cell 1 (length cell - 1))) where
    pub minus_bad : d ≡ None → None ≡ signed_in most cell
    unfolding whole_from
    minus_bad x = sym (with_minus most cell h e ∙ ap (whole_from (λ n. neg_ℤ (pos n))) (sym q ∙ x))

    pub minus_value : {n : ℕ} → d ≡ Some n → SFits w64 (pos n) → Some (to_z w64 (of_z w64 (pos 0 -ℤ to_z w64 n))) ≡ signed_in most cell
    unfolding whole_from
    minus_value x f =
        ap Some (to_z-of_z (turned_fits f) ∙ turned f) ∙ sym (with_minus most cell h e ∙ ap (whole_from (λ n. neg_ℤ (pos n))) (sym q ∙ x))

  -- alone
  module _ (h : 0 < length cell → get_or cell 0 0 ≢ 45) {d : Option ℕ} (q : d ≡ decimal_in 0 most cell) where
    pub plain_bad : d ≡ None → None ≡ signed_in most cell
    unfolding whole_from
    plain_bad x = sym (without most cell h ∙ ap (whole_from pos) (sym q ∙ x))

    pub plain_value : {n : ℕ} → d ≡ Some n → SFits w64 (pos n) → Some (to_z w64 n) ≡ signed_in most cell
    unfolding whole_from
    plain_value x f = ap Some (said f) ∙ sym (without most cell h ∙ ap (whole_from pos) (sym q ∙ x))
