-- The corners of a stored polygon are counted up to its first 65,535: that is the place of the first, or the row's length. Assumes nothing.
use Rattle.std.specs.Prelude.{Option, Some, None}
use Rattle.std.specs.Option.{unwrap_or}
use Rattle.std.specs.List.{position_or_len}
use mathlib.Core.Path.{◌≡◌, refl, ap, ◌∙◌}
use mathlib.Core.Bool.{Bool, true, false, cond}
use mathlib.Core.Logic.{⊎_elim}
use mathlib.Core.List.{List, [], ◌∷◌}
use Prim.Native.Nat.{ℕ, suc, ◌+◌, ◌≤◌, ◌<◌}
use native.Mathlib.Omega.{arith}
use lib.Dec.{eqb, ltb}
use borrow.Author.Tests.{lt-ltb, le-ltb}
use lib.ListN.{length, take}
use Rattle.rules.specs.Links.{none}
use Rattle.mem.specs.Cases.{lt_or_le}
use Rattle.rules.specs.Exits.{up_to_none}
use Rattle.laws.proofs.HandedWords.{up_to_few}

abbrev pub place_of_none : List ℕ → ℕ
place_of_none row = position_or_len (λ c. eqb c none) row

-- what stands in front of it are the corners
abbrev Until : List ℕ → Type 0
Until row = (place_of_none row ≡ length (up_to_none row)) × (take (place_of_none row) row ≡ up_to_none row)

until_more : (c : ℕ) (cs : List ℕ) → Until cs → (b : Bool) → eqb c none ≡ b → Until (c ∷ cs)
unfolding up_to_none
until_more c cs r true e = rw e (refl, refl)
until_more c cs r false e =
    let one : 1 + place_of_none cs ≡ suc (place_of_none cs) = omega arith in
    rw (e, one) (ap suc r.0, ap (λ (l : List ℕ). c ∷ l) r.1)

corners_until : (row : List ℕ) → Until row
unfolding up_to_none
corners_until [] = (refl, refl)
corners_until (c ∷ cs) = until_more c cs (corners_until cs) (eqb c none) refl

-- as `position` and `unwrap_or` have it
pub counted : (row : List ℕ) {o : Option ℕ} {r : ℕ} → o ≡ cond (ltb (place_of_none row) (length row)) (Some (place_of_none row)) None
    → r ≡ unwrap_or o (length row) → (r ≡ length (up_to_none row)) × (take r row ≡ up_to_none row)
counted row {o} {r} e f =
    let u = corners_until row in
    let here : r ≡ place_of_none row = ⊎_elim
    (λ (h : place_of_none row < length row). f ∙ rw e (rw (lt-ltb (place_of_none row) (length row) h) refl))
    (λ (h : length row ≤ place_of_none row). f ∙ rw e (rw (le-ltb (place_of_none row) (length row) h)
    (let q : length row ≡ place_of_none row = omega (arith, u.0, up_to_few row) in q)))
    (lt_or_le (place_of_none row) (length row)) in
    (here ∙ u.0, rw here u.1)
