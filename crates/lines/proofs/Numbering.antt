-- The loop over the cells of a line: the numbers of the whole are those so far, and then those of the cells that are left; the numbers so far stand at the
-- beginning of the words. Assumes nothing.
use Rattle.std.specs.Prelude.{Option, Some, None}
use mathlib.Core.Path.{◌≡◌, refl, sym, ap, ◌∙◌}
use mathlib.Core.Bool.{Bool, true, false}
use mathlib.Core.List.{List, [], ◌∷◌, ◌++◌, append-nil}
use mathlib.Core.Logic.{◌≢◌}
use Prim.Native.Nat.{ℕ, ◌+◌, ◌-◌, ◌≤◌, ◌<◌}
use native.Mathlib.Nat.{zero-add, sub-zero}
use native.Mathlib.Omega.{arith}
use lib.Dec.{eqb}
use lib.ListN.{length, take, drop, get_or, set, replicate, length-append, length-set, length-replicate, drop_of_length-le}
use lib.Seq.{append_snoc}
use borrow.Author.Tests.{eqb-true, eqb-false}
use Rattle.mem.specs.Slice.{view, splice, splice_nil, splice_whole, splice_eq, write_step}
use Rattle.mem.specs.Zeros.{with_zeros, drop_replicate}
use Rattle.rules.specs.Lines.{tab_byte, is_same_text, parts, Line, decimal_in, Numbers, numbers, malformed, with_number, numbers_in, numbers_of}
use Rattle.lines.specs.Scan.{place_of, parts_some}
use Rattle.lines.specs.Read.{are_numbers, good_in, good_of, RowRead, said, widened}
use Rattle.lines.specs.Taken.{row_good, row_bad, widened_whole}
use Rattle.lines.proofs.Scanning.{drop_next}
use Rattle.lines.proofs.Counting.{cells_from, cells_more, cells_end, first_cell}

-- ---- numbers in front of others
unfoldable pub with_numbers : List ℕ → Numbers → Numbers
with_numbers [] r = r
with_numbers (n ∷ ns) r = with_number n (with_numbers ns r)

with_malformed : (ns : List ℕ) → with_numbers ns malformed ≡ malformed
unfolding with_numbers with_number
with_malformed [] = refl
with_malformed (n ∷ ns) = rw (with_malformed ns) refl

with_numbers_lem : (ns : List ℕ) → with_numbers ns (numbers []) ≡ numbers ns
unfolding with_numbers with_number
with_numbers_lem [] = refl
with_numbers_lem (n ∷ ns) = rw (with_numbers_lem ns) refl

with_snoc : (ns : List ℕ) (n : ℕ) (r : Numbers) → with_numbers (ns ++ (n ∷ [])) r ≡ with_numbers ns (with_number n r)
unfolding with_numbers
with_snoc [] n r = refl
with_snoc (m ∷ ns) n r = ap (with_number m) (with_snoc ns n r)

-- ---- one more cell
module _ (least m : ℕ) (ms c : List ℕ) (cs : Line) where
  in_bad : decimal_in least m c ≡ None → numbers_in least (m ∷ ms) (c ∷ cs) ≡ malformed
  unfolding numbers_in
  in_bad e = rw (e, numbers_in) refl

  in_value : {n : ℕ} → decimal_in least m c ≡ Some n → numbers_in least (m ∷ ms) (c ∷ cs) ≡ with_number n (numbers_in least ms cs)
  unfolding numbers_in
  in_value e = rw (e, numbers_in) refl

  found_bad : decimal_in least m c ≡ None → good_in least (m ∷ ms) (c ∷ cs) ≡ []
  unfolding good_in
  found_bad e = rw (e, good_in) refl

  found_value : {n : ℕ} → decimal_in least m c ≡ Some n → good_in least (m ∷ ms) (c ∷ cs) ≡ n ∷ good_in least ms cs
  unfolding good_in
  found_value e = rw (e, good_in) refl

in_over : (least : ℕ) (cs : Line) → 0 < length cs → numbers_in least [] cs ≡ malformed
unfolding numbers_in
in_over least [] h = absurd (omega arith)
in_over least (c ∷ cs) h = refl

-- ---- the loop: v are the words where it begins, `values` the words now
pub record Numbering (line name : List ℕ) (least : ℕ) (mosts v values : List ℕ) (at i : ℕ) : Type 0 where
  pub ns : List ℕ
  pub same : numbers_of name least mosts (parts tab_byte line) ≡ with_numbers ns (numbers_in least (drop i mosts) (cells_from line at))
  pub found : good_of name least mosts (parts tab_byte line) ≡ ns ++ good_in least (drop i mosts) (cells_from line at)
  pub put : values ≡ splice v 0 ns
  pub count : length ns ≡ i
  pub long : length values ≡ length v
  pub within : at ≤ length line

-- a line that is not good, with these numbers up to its first bad cell
row_none : (line name : List ℕ) (least : ℕ) (mosts : List ℕ) {v values : List ℕ} (ns : List ℕ) → numbers_of name least mosts (parts tab_byte line) ≡ malformed
    → good_of name least mosts (parts tab_byte line) ≡ ns → values ≡ splice v 0 ns → RowRead name least mosts (parts tab_byte line) false v values
unfolding are_numbers
row_none line name least mosts {v} ns e g p = record { good = rw e refl; put = p ∙ ap (splice v 0) (sym g) }

module _ (line name : List ℕ) (least : ℕ) (mosts v : List ℕ) {at : ℕ} (e : at ≡ 0 + place_of tab_byte (drop 0 line)) where
  first : parts tab_byte line ≡ take at line ∷ cells_from line at
  first = rw (sub-zero at) at (first_cell line 0 at (omega arith) e)

  -- the first cell is another name
  pub other_name : {t : Bool} → t ≡ is_same_text (take at line) name → t ≡ false → RowRead name least mosts (parts tab_byte line) false v v
  unfolding numbers_of good_of
  other_name q f =
      row_none line name least mosts [] (ap (numbers_of name least mosts) first ∙ rw (sym q ∙ f, numbers_of) refl)
      (ap (good_of name least mosts) first ∙ rw (sym q ∙ f, good_of) refl) (sym (splice_nil v 0))

  pub numbering_begin : {t : Bool} → t ≡ is_same_text (take at line) name → t ≡ true → at ≤ length line → Numbering line name least mosts v v at 0
  unfolding numbers_of good_of with_numbers
  numbering_begin q f h = record {
    ns = [];
    same = ap (numbers_of name least mosts) first ∙ rw (sym q ∙ f, numbers_of) refl;
    found = ap (good_of name least mosts) first ∙ rw (sym q ∙ f, good_of) refl;
    put = sym (splice_nil v 0);
    count = refl;
    long = refl;
    within = h;
  }

module _ {line name : List ℕ} {least : ℕ} {mosts v values : List ℕ} {at i : ℕ} (s : Numbering line name least mosts v values at i) where
  -- the numbers so far are all, and the line isn't good
  ended : numbers_in least (drop i mosts) (cells_from line at) ≡ malformed → good_in least (drop i mosts) (cells_from line at) ≡ []
      → RowRead name least mosts (parts tab_byte line) false v values
  ended e g =
      row_none line name least mosts s.ns (s.same ∙ ap (with_numbers s.ns) e ∙ with_malformed s.ns)
      (s.found ∙ ap (λ (l : List ℕ). s.ns ++ l) g ∙ append-nil s.ns) s.put

  module _ (h : i < length mosts) where
    -- a cell is missing
    pub numbering_short : length line ≤ at → RowRead name least mosts (parts tab_byte line) false v values
    unfolding numbers_in good_in
    numbering_short e = ended (rw (drop_next mosts i h, cells_end line at e) refl) (rw (drop_next mosts i h, cells_end line at e) refl)

    module _ (more : at < length line) {to : ℕ} (e : to ≡ at + 1 + place_of tab_byte (drop (at + 1) line)) where
      left : cells_from line at ≡ view line (at + 1) (to - (at + 1)) ∷ cells_from line to
      left = cells_more line at more ∙ first_cell line (at + 1) to (omega arith) e

      pub numbering_bad : {d : Option ℕ} → d ≡ decimal_in least (get_or mosts i 0) (view line (at + 1) (to - (at + 1))) → d ≡ None
          → RowRead name least mosts (parts tab_byte line) false v values
      numbering_bad q f =
          ended (rw (drop_next mosts i h, left) (in_bad least _ _ _ _ (sym q ∙ f))) (rw (drop_next mosts i h, left) (found_bad least _ _ _ _ (sym q ∙ f)))

      pub numbering_next : {d : Option ℕ} {n : ℕ} → d ≡ decimal_in least (get_or mosts i 0) (view line (at + 1) (to - (at + 1))) → d ≡ Some n
          → to ≤ length line → Numbering line name least mosts v (set values i n) to (i + 1)
      numbering_next {d} {n} q f k = record {
        ns = s.ns ++ (n ∷ []);
        same = s.same ∙ rw (drop_next mosts i h, left, in_value least _ _ _ _ (sym q ∙ f)) (sym (with_snoc s.ns n _));
        found = s.found ∙ rw (drop_next mosts i h, left, found_value least _ _ _ _ (sym q ∙ f)) (sym (append_snoc s.ns n _));
        put = rw (zero-add i) at (write_step v 0 i s.ns n s.put s.count);
        count = length-append s.ns (n ∷ []) ∙ ap (λ (j : ℕ). j + 1) s.count;
        long = length-set values i n ∙ s.long;
        within = k;
      }

  module _ (h : length mosts ≤ i) where
    all : good_in least (drop i mosts) (cells_from line at) ≡ []
    unfolding good_in
    all = rw (drop_of_length-le mosts {i = i} h) refl

    -- a cell is too many
    too_many : at ≢ length line → RowRead name least mosts (parts tab_byte line) false v values
    too_many n =
        ended
        (rw (drop_of_length-le mosts {i = i} h, cells_more line at (omega (arith, s.within))) (in_over least _ (parts_some tab_byte (drop (at + 1) line)))) all

    well : at ≡ length line → RowRead name least mosts (parts tab_byte line) true v values
    unfolding numbers_in are_numbers
    well e =
        record {
          good = rw (s.same, drop_of_length-le mosts {i = i} h, cells_end line at (omega arith), with_numbers_lem s.ns) refl;
          put = s.put ∙ ap (splice v 0) (sym (s.found ∙ ap (λ (l : List ℕ). s.ns ++ l) all ∙ append-nil s.ns));
        }

    pub numbering_end : RowRead name least mosts (parts tab_byte line) (eqb at (length line)) v values
    numbering_end = (elim (eqb at (length line)) as (λ (t : Bool). eqb at (length line) ≡ t → RowRead name least mosts (parts tab_byte line) t v values) [
      | true ↦ λ e. well (eqb-true at (length line) e)
      | false ↦ λ e. too_many (eqb-false at (length line) e)
    ]) refl

-- ---- the words of a good line are its numbers

zeros_splice : (n : ℕ) (xs : List ℕ) → length xs ≤ n → splice (replicate n 0) 0 xs ≡ with_zeros n xs
unfolding with_zeros
zeros_splice n xs h =
    splice_eq (replicate n 0) 0 xs (rw (length-replicate {A = ℕ} n 0) (omega arith))
    ∙ ap (λ (r : List ℕ). xs ++ r) (rw (zero-add (length xs)) (drop_replicate {A = ℕ} (length xs) n 0))

module _ {name : List ℕ} {least : ℕ} {mosts : List ℕ} {l : Line} {r : Bool} {v w : List ℕ} (x : RowRead name least mosts l r v w) where
  -- as many words as limits
  pub row_said : r ≡ true → length mosts ≡ length v → Some w ≡ said (numbers_of name least mosts l)
  unfolding said
  row_said e h =
      let g = row_good x e in
      let q : w ≡ g.ns = g.put ∙ splice_whole v g.ns (g.limits.long ∙ h) in
      ap Some q ∙ sym (ap said g.says)

  pub row_unsaid : r ≡ false → None ≡ said (numbers_of name least mosts l)
  unfolding said
  row_unsaid e = rw (row_bad x e) refl

  -- n zeros, which are at least as many: those that no number takes stand behind the numbers
  module _ (n : ℕ) (z : v ≡ replicate n 0) (h : length mosts ≤ n) where
    pub said_widened : r ≡ true → Some w ≡ said (widened n (numbers_of name least mosts l))
    unfolding said widened
    said_widened e =
        let g = row_good x e in
        let q : w ≡ with_zeros n g.ns = g.put ∙ ap (λ (u : List ℕ). splice u 0 g.ns) z ∙ zeros_splice n g.ns (omega (arith, g.limits.long)) in
        ap Some q ∙ sym (ap (λ (m : Numbers). said (widened n m)) g.says)

    pub unsaid_widened : r ≡ false → None ≡ said (widened n (numbers_of name least mosts l))
    unfolding said widened
    unsaid_widened e = rw (row_bad x e) refl

-- with as many limits as there is room for, no zero stands behind the numbers
pub both_said : (n : ℕ) (name : List ℕ) (least : ℕ) (mosts : List ℕ) (l : Line) {d : Option (List ℕ)} → d ≡ said (widened n (numbers_of name least mosts l))
    → length mosts ≡ n → d ≡ said (numbers_of name least mosts l)
both_said n name least mosts l e h = e ∙ ap said (widened_whole n name least mosts l h)
