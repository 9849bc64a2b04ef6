-- A file is read: what is known of one that has the right length, and each way out with its reply and the words that it leaves. Assumes nothing.
use Rattle.std.specs.Prelude.{Option, Some, None, Result, Ok, Err}
use mathlib.Core.Path.{◌≡◌, refl, sym, ap, ◌∙◌}
use mathlib.Core.Bool.{Bool, true, false}
use mathlib.Core.List.{List}
use Prim.Native.Nat.{ℕ, ◌+◌, ◌*◌, ◌≤◌, ◌<◌}
use borrow.Author.Tests.{leb-true, eqb-true, le-leb, lt-leb}
use lib.Dec.{leb, eqb}
use lib.ListN.{length}
use Rattle.ints.specs.Bools.{and_left, and_right}
use Rattle.mem.specs.Slice.{splice}
use Rattle.rules.specs.Stl.{file_length, facets_read, count_in, right_length, first_wrong, facets_in, after_zeros, reading}
use Rattle.rules.specs.StlCall.{point_words, unstl_answer, unstl_reply, unstl_left, unstl_exit}
use Rattle.rules.specs.declared.UnstlRefusal.{UnstlRefusal}
use Rattle.rules.specs.declared.UnstlRefusal.TheVariants.{BadLength, NotZero, ShortPoints}
use Rattle.laws.proofs.StlWords.{facets_in_long}

module _ (bs : List ℕ) where
  -- ---- a file of the right length

  module _ (right : right_length bs ≡ true) where
    pub front_there : 84 ≤ length bs
    unfolding right_length
    front_there = leb-true 84 (length bs) (and_left (leb 84 (length bs)) (eqb (length bs) (file_length (count_in bs))) right)

    pub facets_there : length bs ≡ 84 + count_in bs * 50
    unfolding right_length file_length
    facets_there = eqb-true (length bs) (file_length (count_in bs)) (and_right (leb 84 (length bs)) (eqb (length bs) (file_length (count_in bs))) right)

  -- ---- its facets, n of them, fit the words or they don't

  module _ (words : List ℕ) {n : ℕ} (e : n ≡ count_in bs) where
    abbrev answer : Result ℕ UnstlRefusal
    answer = unstl_answer (facets_read (facets_in bs)) (length words)

    pub points_short : length words < n * 9 → (Err ShortPoints ≡ answer) × (words ≡ unstl_left (point_words (facets_in bs)) words (Err ShortPoints))
    unfolding unstl_answer unstl_left
    points_short h =
        let m : length words < count_in bs * 9 = rw e at h in
        (rw (facets_in_long bs, lt-leb (count_in bs * 9) (length words) m) refl, refl)

    pub points_taken : {x : List ℕ} → n * 9 ≤ length words → x ≡ splice words 0 (point_words (facets_in bs))
        → (Ok n ≡ answer) × (x ≡ unstl_left (point_words (facets_in bs)) words (Ok n))
    unfolding unstl_answer unstl_left
    points_taken h f =
        let m : count_in bs * 9 ≤ length words = rw e at h in
        (rw (facets_in_long bs, le-leb (count_in bs * 9) (length words) m, e) refl, f)

  -- ---- the replies

  -- the words are what the reply leaves
  module _ (words : List ℕ) {r : Result ℕ UnstlRefusal} {x : List ℕ} where
    left_so : r ≡ unstl_reply bs (length words) → x ≡ unstl_left (point_words (facets_in bs)) words r
        → (r ≡ unstl_reply bs (length words)) × (x ≡ unstl_exit bs words)
    unfolding unstl_exit
    left_so e f = (e, f ∙ ap (unstl_left (point_words (facets_in bs)) words) e)

    pub read_whole : {t : Bool} {f : Option ℕ} → t ≡ right_length bs → t ≡ true → f ≡ first_wrong bs → f ≡ None
        → (r ≡ unstl_answer (facets_read (facets_in bs)) (length words)) × (x ≡ unstl_left (point_words (facets_in bs)) words r)
        → (r ≡ unstl_reply bs (length words)) × (x ≡ unstl_exit bs words)
    unfolding unstl_reply reading after_zeros
    read_whole e y g z a = left_so (rw (sym e ∙ y, sym g ∙ z) a.0) a.1

  module _ (words : List ℕ) where
    pub read_bad_length : {t : Bool} → t ≡ right_length bs → t ≡ false → (Err BadLength ≡ unstl_reply bs (length words)) × (words ≡ unstl_exit bs words)
    unfolding unstl_reply unstl_answer reading unstl_left
    read_bad_length e y = left_so words (rw (sym e ∙ y) refl) refl

    pub read_not_zero : {t : Bool} {f : Option ℕ} {i : ℕ} → t ≡ right_length bs → t ≡ true → f ≡ first_wrong bs → f ≡ Some i
        → (Err (NotZero i) ≡ unstl_reply bs (length words)) × (words ≡ unstl_exit bs words)
    unfolding unstl_reply unstl_answer reading after_zeros unstl_left
    read_not_zero e y g z = left_so words (rw (sym e ∙ y, sym g ∙ z) refl) refl
