-- What a search for a byte finds is its first place. And a comparison byte by byte. Assumes nothing.
use Rattle.std.specs.Prelude.{Option, Some, None, position}
use Rattle.std.specs.List.{position_or_len}
use Rattle.std.proofs.lemmas.Option.{none-some, same_Some}
use Rattle.std.proofs.lemmas.List.Recursion.{is_position_or_len}
use mathlib.Core.Path.{◌≡◌, refl, sym, ◌∙◌}
use mathlib.Core.Bool.{Bool, true, false, cond}
use mathlib.Core.List.{List, [], ◌∷◌}
use Prim.Native.Nat.{ℕ, suc, ◌+◌, ◌≤◌, ◌<◌}
use native.Mathlib.Numerals.{add-one}
use native.Mathlib.Omega.{arith}
use lib.Dec.{eqb, ltb}
use lib.Pointwise.{pointwise}
use Rattle.std.proofs.Common.{nat_eq}
use lib.ListN.{length, drop, get_or}
use lib.Seq.{drop-cons}
use borrow.Author.Tests.{ltb-true, ltb-false}
use Rattle.rules.specs.Lines.{is_same_text}
use Rattle.lines.specs.Scan.{place_of}

-- the list from i on, in the loop's form
pub drop_next : (l : List ℕ) (i : ℕ) → i < length l → drop i l ≡ get_or l i 0 ∷ drop (i + 1) l
drop_next l i h = rw add-one (drop-cons l i 0 h)

-- ---- the first place of the byte b, as a search for it gives it
place_turn : (b c : ℕ) (cs : List ℕ) → place_of b (c ∷ cs) ≡ cond (eqb c b) 0 (1 + place_of b cs)
unfolding place_of
place_turn b c cs = (elim (eqb c b) as (λ (t : Bool). elim t [ true ↦ 0 | false ↦ place_of b cs + 1 ] ≡ cond t 0 (1 + place_of b cs)) [
  | true ↦ refl
  | false ↦ omega arith
])

place_nil : (b : ℕ) → place_of b [] ≡ 0
unfolding place_of
place_nil b = refl

pub first_place : (b : ℕ) (l : List ℕ) → place_of b l ≡ position_or_len (λ (x : ℕ). eqb x b) l
first_place b = is_position_or_len (place_of b) (λ (x : ℕ). eqb x b) (place_nil b) (place_turn b)

place_within : (b : ℕ) (l : List ℕ) → place_of b l ≤ length l
unfolding place_of
place_within b [] = omega arith
place_within b (c ∷ cs) = (elim (eqb c b) as (λ (t : Bool). elim t [ true ↦ 0 | false ↦ place_of b cs + 1 ] ≤ suc (length cs)) [
  | true ↦ omega arith
  | false ↦ omega (arith, place_within b cs)
])

-- a search that finds place p, unless it is n
search_found : (p n : ℕ) {k : ℕ} → cond (ltb p n) (Some p) None ≡ Some k → (k ≡ p) × (k < n)
search_found p n {k} e = (elim (ltb p n) as (λ (t : Bool). ltb p n ≡ t → cond t (Some p) None ≡ Some k → (k ≡ p) × (k < n)) [
  | true ↦ λ h f. let q = sym (same_Some p k f) in (q, omega (arith, ltb-true p n h))
  | false ↦ λ h f. absurd (none-some k f)
]) refl e

search_missed : (p n : ℕ) → cond (ltb p n) (Some p) None ≡ None → n ≤ p
search_missed p n e = (elim (ltb p n) as (λ (t : Bool). ltb p n ≡ t → cond t (Some p) None ≡ None → n ≤ p) [
  | true ↦ λ h f. absurd (none-some p (sym f))
  | false ↦ λ h f. ltb-false p n h
]) refl e

module _ (b : ℕ) (l : List ℕ) {r : Option ℕ} (e : r ≡ position (λ (x : ℕ). eqb x b) l) where
  pub found_at : {k : ℕ} → r ≡ Some k → (k ≡ place_of b l) × (k < length l)
  found_at q = rw (first_place b l) (search_found (position_or_len (λ (x : ℕ). eqb x b) l) (length l) (sym e ∙ q))

  pub found_none : r ≡ None → place_of b l ≡ length l
  found_none q =
      let within = place_within b l in
      let first = first_place b l in
      let past = search_missed (position_or_len (λ (x : ℕ). eqb x b) l) (length l) (sym e ∙ q) in
      omega arith

-- ---- whether two texts are the same, byte by byte
pub same_pointwise : (a b : List ℕ) → pointwise nat_eq a b ≡ is_same_text a b
unfolding is_same_text
same_pointwise [] [] = refl
same_pointwise [] (d ∷ ds) = refl
same_pointwise (c ∷ cs) [] = refl
same_pointwise (c ∷ cs) (d ∷ ds) = rw (same_pointwise cs ds) refl
