-- The loop over the values of a list that prints a text of each: printed is the text of those so far, and what is left is the text of the others.
-- Assumes nothing.
use mathlib.Core.Path.{◌≡◌, refl, sym, ap, ◌∙◌}
use mathlib.Core.List.{List, [], ◌∷◌, append-nil}
use Prim.Native.Nat.{ℕ, ◌+◌, ◌≤◌, ◌<◌}
use native.Mathlib.Numerals.{add-one}
use lib.ListN.{length, drop, get_or, drop_of_length-le}
use lib.Seq.{drop-cons}
use Rattle.mem.specs.Packed.{packed}
use Rattle.lines.specs.Print.{Room, Printed}
use Rattle.lines.specs.Printing.{printed_nothing, printed_as}
use Rattle.lines.specs.Pieces.{joined, Going, going_begin, going_parts, going_room, going_more, going_end}

module _ {B : Type 0} (text : B → List ℕ) (xs : List B) (v : List ℕ) (at : ℕ) where
  -- i values are printed
  abbrev pub Left : List ℕ → ℕ → ℕ → Type 0
  Left w to i = Going (packed text xs) v at (packed text (drop i xs) ∷ []) w to

  pub left_begin : Room v (packed text xs) at → Left v at 0
  unfolding joined
  left_begin r = going_begin (packed text xs ∷ []) v at (sym (append-nil (packed text xs))) r

  module _ {w : List ℕ} {to i : ℕ} (l : Left w to i) where
    module _ {x : B} (e : x ≡ get_or xs i x) (h : i < length xs) where
      next : Going (packed text xs) v at (text x ∷ (packed text (drop (i + 1) xs) ∷ [])) w to
      unfolding packed
      next =
          going_parts l (ap (packed text) (drop-cons xs i x h) ∙ rw (← e, add-one i) refl)

      pub left_room : Room w (text x) to
      left_room = going_room next

      pub left_more : {y : List ℕ} {m : ℕ} → Printed (text x) w y to m → Left y m (i + 1)
      left_more p = going_more next p

    pub left_end : length xs ≤ i → Printed (packed text xs) v w at to
    unfolding packed
    left_end h = going_end (going_more l (printed_as (printed_nothing w to) (sym (ap (packed text) (drop_of_length-le xs {i = i} h)))))
