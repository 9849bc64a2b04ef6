-- What is printed for a file, by what reading it comes to; how long that is, and that it is counted. Assumes nothing.
-- Key: `too_long`, `bad_length`, `not_zero_lem`, `all_good`: the four cases; `right_is`; `good_fits`; `whole_answer`.
use Rattle.std.specs.Prelude.{Some, None}
use mathlib.Core.Path.{◌≡◌, refl, sym, ◌∙◌}
use mathlib.Core.Bool.{true, false}
use mathlib.Core.List.{List}
use Prim.Native.Nat.{ℕ, ◌+◌, ◌*◌, ◌≤◌, ◌<◌}
use native.Mathlib.Omega.{arith}
use borrow.Author.Tests.{lt-ltb, le-ltb, leb-true, eqb-true}
use lib.Dec.{leb, eqb}
use lib.ListN.{length, take}
use lib.Seq.{length-take-le}
use Rattle.ints.specs.Bools.{and_left, and_right}
use Rattle.rules.specs.Sheet.{bytes_most, refused_text}
use Rattle.rules.specs.Stl.{facets_read, count_in, file_length, right_length, first_wrong, facets_in, after_zeros, reading}
use Rattle.rules.specs.StlText.{reading_text, facets_text}
use Rattle.lines.specs.Print.{Printed}
use Rattle.lines.specs.Printing.{printed_as, printed_same_length}
use Rattle.facettext.proofs.Facets.{good_room}

-- ---- a right length

pub record Right (bs : List ℕ) : Type 0 where
  pub long : 84 ≤ length bs
  pub fits : length bs ≡ 84 + count_in bs * 50

pub right_is : (bs : List ℕ) → right_length bs ≡ true → Right bs
unfolding right_length file_length
right_is bs e =
    let a = leb 84 (length bs) in
    let b = eqb (length bs) (84 + count_in bs * 50) in
    record { long = leb-true 84 (length bs) (and_left a b e); fits = eqb-true (length bs) (84 + count_in bs * 50) (and_right a b e) }

-- there is room for a good file's text
pub good_fits : (bs : List ℕ) → length bs ≤ 65536 → right_length bs ≡ true → length (reading_text (facets_read (facets_in bs))) ≤ 272000
good_fits bs h e = good_room bs (omega (arith, (right_is bs e).fits))

-- ---- the four cases

module _ (bs : List ℕ) where
  pub too_long : bytes_most < length bs → facets_text bs ≡ refused_text 23 0
  unfolding facets_text
  too_long h = rw (lt-ltb bytes_most (length bs) h, facets_text) refl

  module _ (h : length bs ≤ bytes_most) where
    short : facets_text bs ≡ reading_text (reading bs)
    unfolding facets_text
    short = rw (le-ltb bytes_most (length bs) h, facets_text) refl

    pub bad_length : right_length bs ≡ false → facets_text bs ≡ refused_text 72 0
    unfolding reading reading_text
    bad_length e = short ∙ rw (e, reading) refl

    right : right_length bs ≡ true → facets_text bs ≡ reading_text (after_zeros bs (first_wrong bs))
    unfolding reading
    right e = short ∙ rw (e, reading) refl

    pub not_zero_lem : right_length bs ≡ true → (i : ℕ) → first_wrong bs ≡ Some i → facets_text bs ≡ refused_text 73 i
    unfolding after_zeros reading_text
    not_zero_lem e i q = right e ∙ rw q refl

    pub all_good : right_length bs ≡ true → first_wrong bs ≡ None → facets_text bs ≡ reading_text (facets_read (facets_in bs))
    unfolding after_zeros
    all_good e q = right e ∙ rw q refl

-- ---- what is printed is the answer, and its count that of bytes in the output

pub whole_answer : {piece text v w : List ℕ} {r : ℕ} → Printed piece v w 0 r → text ≡ piece → length piece ≤ length v
    → Printed text v w 0 r × ((r ≤ length w) × (r ≡ length (take r w)))
whole_answer {piece} {text} {v} {w} {r} p e h =
    let n : r ≤ length w = omega (arith, printed_same_length p, p.next) in
    (printed_as p (sym e), (n, sym (length-take-le r w n)))
