-- What is known of a line that was read: which line of the text it is, its numbers, and what its reader's answer tells. Assumes nothing.
-- Key: `line_at_lem`, `line_open`, `line_missing`: the line at a place; `taken`: a line with numbers is the first of the lines from its place on; `numbers_long`,
-- `numbers_most`: its numbers keep their limits; `row_good`, `row_bad`: all of it, from the answer of `read_row`; `good_read`, `bad_read`: from that of
-- `read_line`.
use Rattle.std.specs.Prelude.{◌≡◌, Bool, true, false, ◌&&◌, cond, ℕ, zero, suc, ◌+◌, ◌-◌, ◌≤◌, ◌<◌, leb, length, drop, get_or, Option, Some, None}
use Rattle.std.proofs.Math.Path.{refl, ap, subst}
use Rattle.std.proofs.lemmas.Option.{none-some, same_Some}
use Rattle.std.proofs.Common.{sym, ◌∙◌, true≢false, ⊎_elim, arith, drop_of_length-le, leb-true}
use mathlib.Core.List.{List, [], ◌∷◌, append-nil}
use Rattle.std.proofs.Math.ListN.{length-drop}
use Rattle.ints.specs.Bools.{and_left, and_right}
use Rattle.mem.specs.Slice.{view, splice}
use Rattle.mem.specs.Cases.{lt_or_le}
use Rattle.rules.specs.Lines.{tab_byte, lf, is_empty, is_same_text, parts, Line, whole_lines, lines_of, is_decimal, value_from, decimal_in, Numbers, numbers, malformed, with_number, numbers_in, numbers_of}
use Rattle.lines.specs.declared.line.LineRead.{LineRead}
use Rattle.lines.specs.Scan.{place_of, part_next, part_last, parts_some}
use Rattle.mem.specs.Zeros.{with_zeros}
use Rattle.lines.specs.Read.{are_numbers, good_in, good_of, RowRead, widened, line_end, reads, line_read, numbers_at}

-- ---- the line at a place of a text

pub lines_none : lines_of [] ≡ []
unfolding lines_of whole_lines parts is_empty
lines_none = refl

not_empty : (l : List ℕ) → 0 < length l → is_empty l ≡ false
unfolding is_empty
not_empty [] h = absurd (omega arith)
not_empty (c ∷ cs) h = refl

-- a part that another follows is a line
whole_cons : (l : List ℕ) (ps : List (List ℕ)) → 0 < length ps → whole_lines (l ∷ ps) ≡ parts tab_byte l ∷ whole_lines ps
unfolding whole_lines
whole_cons l [] h = absurd (omega arith)
whole_cons l (m ∷ ms) h = refl

module _ (text : List ℕ) (p : ℕ) where
  -- an LF ends it
  pub line_at_lem : p + place_of lf (drop p text) < length text
      → lines_of (drop p text) ≡ parts tab_byte (view text p (place_of lf (drop p text))) ∷ lines_of (drop (line_end text p) text)
  unfolding lines_of line_end
  line_at_lem h = ap whole_lines (part_next lf text p h) ∙ whole_cons _ _ (parts_some lf _)

  -- none does
  pub line_open : length text ≤ p + place_of lf (drop p text) → p < length text → lines_of (drop p text) ≡ [] ∷ []
  unfolding lines_of whole_lines
  line_open h k = ap whole_lines (part_last lf text p h) ∙ rw (not_empty (drop p text) (rw length-drop (omega arith))) refl

  pub line_missing : length text ≤ p → lines_of (drop p text) ≡ []
  line_missing h = ap lines_of (drop_of_length-le text {i = p} h) ∙ lines_none

  pub line_some : p < length text → 0 < length (lines_of (drop p text))
  line_some h = ⊎_elim
      (λ (k : p + place_of lf (drop p text) < length text). rw (line_at_lem k) (omega arith))
      (λ (k : length text ≤ p + place_of lf (drop p text)). rw (line_open k h) (omega arith))
      (lt_or_le (p + place_of lf (drop p text)) (length text))

  -- a line that no LF ends has no cells, nor has one that is missing
  pub no_cells : length text ≤ p + place_of lf (drop p text) → get_or (lines_of (drop p text)) 0 [] ≡ []
  no_cells h = ⊎_elim
      (λ (k : p < length text). ap (λ (ls : List Line). get_or ls 0 []) (line_open h k))
      (λ (k : length text ≤ p). ap (λ (ls : List Line). get_or ls 0 []) (line_missing k))
      (lt_or_le p (length text))

  module _ (name : List ℕ) (least : ℕ) (mosts : List ℕ) where
    pub numbers_at_lem : p + place_of lf (drop p text) < length text
        → numbers_at text p name least mosts ≡ numbers_of name least mosts (parts tab_byte (view text p (place_of lf (drop p text))))
    unfolding numbers_at
    numbers_at_lem h = ap (λ (ls : List Line). numbers_of name least mosts (get_or ls 0 [])) (line_at_lem h)

    -- and so no numbers
    pub numbers_open : length text ≤ p + place_of lf (drop p text) → numbers_at text p name least mosts ≡ malformed
    unfolding numbers_at numbers_of
    numbers_open h = ap (numbers_of name least mosts) (no_cells h)

-- a line with these numbers: the first one from p on, and the others behind its end
pub record Taken (text : List ℕ) (p : ℕ) (name : List ℕ) (least : ℕ) (mosts ns : List ℕ) : Type 0 where
  pub line : Line
  pub first : lines_of (drop p text) ≡ line ∷ lines_of (drop (line_end text p) text)
  pub says : numbers_of name least mosts line ≡ numbers ns
  pub within : line_end text p ≤ length text
  pub further : p < line_end text p

pub taken : (text : List ℕ) (p : ℕ) (name : List ℕ) (least : ℕ) (mosts : List ℕ) {ns : List ℕ} → numbers_at text p name least mosts ≡ numbers ns
    → Taken text p name least mosts ns
unfolding line_end
taken text p name least mosts {ns} e = ⊎_elim
    (λ (h : p + place_of lf (drop p text) < length text). record {
      line = parts tab_byte (view text p (place_of lf (drop p text)));
      first = line_at_lem text p h;
      says = sym (numbers_at_lem text p name least mosts h) ∙ e;
      within = omega arith;
      further = omega arith;
    })
    (λ (h : length text ≤ p + place_of lf (drop p text)).
    let q = numbers_open text p name least mosts h in let z : ◌≡◌ {A = ℕ} 0 1 = cc in absurd (omega arith))
    (lt_or_le (p + place_of lf (drop p text)) (length text))

-- ---- the numbers of a line, and their limits
pub record Limited (least : ℕ) (mosts ns : List ℕ) : Type 0 where
  pub long : length ns ≡ length mosts
  pub most : (i : ℕ) → i < length mosts → (least ≤ get_or ns i 0) × (get_or ns i 0 ≤ get_or mosts i 0)

pub value_in : (least most n : ℕ) (cell : List ℕ) → decimal_in least most cell ≡ Some n → (least ≤ n) × (n ≤ most)
unfolding decimal_in
value_in least most n cell e = let v = value_from 0 cell in
    (elim (is_decimal cell && (leb least v && leb v most))
    as (λ (t : Bool). (is_decimal cell && (leb least v && leb v most)) ≡ t → cond t (Some v) None ≡ Some n → (least ≤ n) × (n ≤ most)) [
      | true ↦ λ q f.
          let x : v ≡ n = cc in
          let y = and_right (is_decimal cell) (leb least v && leb v most) q in
          (rw x at (leb-true least v (and_left (leb least v) (leb v most) y)), rw x at (leb-true v most (and_right (leb least v) (leb v most) y)))
      | false ↦ λ q f. let z : ◌≡◌ {A = ℕ} 0 1 = cc in absurd (omega arith)
    ]) refl e

limited_cons : (least m n : ℕ) (ms ns : List ℕ) → (least ≤ n) × (n ≤ m) → Limited least ms ns → Limited least (m ∷ ms) (n ∷ ns)
limited_cons least m n ms ns h r = record { long = ap suc r.long; most = most }
  where
    most : (i : ℕ) → i < suc (length ms) → (least ≤ get_or (n ∷ ns) i 0) × (get_or (n ∷ ns) i 0 ≤ get_or (m ∷ ms) i 0)
    most zero k = h
    most (suc i) k = r.most i (omega arith)

-- a number in front of others
limited_next : (least m n : ℕ) (ms ns : List ℕ) (r : Numbers) → (least ≤ n) × (n ≤ m) → ((ks : List ℕ) → r ≡ numbers ks → Limited least ms ks)
    → with_number n r ≡ numbers ns → Limited least (m ∷ ms) ns
unfolding with_number
limited_next least m n ms ns (numbers ks) h f e = let q : (n ∷ ks) ≡ ns = cc in rw (← q) (limited_cons least m n ms ks h (f ks refl))
limited_next least m n ms ns malformed h f e = let z : ◌≡◌ {A = ℕ} 0 1 = cc in absurd (omega arith)

limited_in : (least : ℕ) (mosts : List ℕ) (cells : Line) (ns : List ℕ) → numbers_in least mosts cells ≡ numbers ns → Limited least mosts ns
unfolding numbers_in with_number
limited_in least [] [] ns e = let q : [] ≡ ns = cc in rw (← q) record { long = refl; most = λ i h. absurd (omega arith) }
limited_in least [] (c ∷ cs) ns e = let z : ◌≡◌ {A = ℕ} 0 1 = cc in absurd (omega arith)
limited_in least (m ∷ ms) [] ns e = let z : ◌≡◌ {A = ℕ} 0 1 = cc in absurd (omega arith)
limited_in least (m ∷ ms) (c ∷ cs) ns e = (elim (decimal_in least m c) as (λ (d : Option ℕ). decimal_in least m c ≡ d → (elim d [ Some n ↦ with_number n (numbers_in least ms cs) | None ↦ malformed ]) ≡ numbers ns → Limited least (m ∷ ms) ns) [
  | Some n ↦ λ q f. limited_next least m n ms ns (numbers_in least ms cs) (value_in least m n c q) (λ ks g. limited_in least ms cs ks g) f
  | None ↦ λ q f. let z : ◌≡◌ {A = ℕ} 0 1 = cc in absurd (omega arith)
]) refl e

pub limited : (name : List ℕ) (least : ℕ) (mosts : List ℕ) (l : Line) (ns : List ℕ) → numbers_of name least mosts l ≡ numbers ns → Limited least mosts ns
unfolding numbers_of
limited name least mosts [] ns e = let z : ◌≡◌ {A = ℕ} 0 1 = cc in absurd (omega arith)
limited name least mosts (c ∷ cs) ns e = (elim (is_same_text c name) as (λ (t : Bool). elim t [ true ↦ numbers_in least mosts cs | false ↦ malformed ] ≡ numbers ns → Limited least mosts ns) [
  | true ↦ limited_in least mosts cs ns
  | false ↦ λ f. let z : ◌≡◌ {A = ℕ} 0 1 = cc in absurd (omega arith)
]) e

module _ (name : List ℕ) (least : ℕ) (mosts : List ℕ) (l : Line) (ns : List ℕ) (e : numbers_of name least mosts l ≡ numbers ns) where
  pub numbers_long : length ns ≡ length mosts
  numbers_long = (limited name least mosts l ns e).long

  pub numbers_most : (i : ℕ) → i < length mosts → (least ≤ get_or ns i 0) × (get_or ns i 0 ≤ get_or mosts i 0)
  numbers_most = (limited name least mosts l ns e).most

-- with as many limits as numbers are asked for, no zero stands behind them
widened_is : (n : ℕ) (name : List ℕ) (least : ℕ) (mosts : List ℕ) (l : Line) (r : Numbers) → numbers_of name least mosts l ≡ r → length mosts ≡ n → widened n r ≡ r
unfolding widened with_zeros
widened_is n name least mosts l (numbers ns) e h =
    let k : n - length ns ≡ 0 = omega (arith, numbers_long name least mosts l ns e) in
    rw k (ap numbers (append-nil ns))
widened_is n name least mosts l malformed e h = refl

pub widened_whole : (n : ℕ) (name : List ℕ) (least : ℕ) (mosts : List ℕ) (l : Line) → length mosts ≡ n
    → widened n (numbers_of name least mosts l) ≡ numbers_of name least mosts l
widened_whole n name least mosts l h = widened_is n name least mosts l (numbers_of name least mosts l) refl h

-- the numbers of a line are those up to its first bad cell, of which there is none
good_next : (n : ℕ) (gs ns : List ℕ) (r : Numbers) → ((ks : List ℕ) → r ≡ numbers ks → gs ≡ ks) → with_number n r ≡ numbers ns → n ∷ gs ≡ ns
unfolding with_number
good_next n gs ns (numbers ks) f e = let q : (n ∷ ks) ≡ ns = cc in rw (f ks refl) q
good_next n gs ns malformed f e = let z : ◌≡◌ {A = ℕ} 0 1 = cc in absurd (omega arith)

good_in_lem : (least : ℕ) (mosts : List ℕ) (cells : Line) (ns : List ℕ) → numbers_in least mosts cells ≡ numbers ns → good_in least mosts cells ≡ ns
unfolding numbers_in good_in
good_in_lem least [] [] ns e = cc
good_in_lem least [] (c ∷ cs) ns e = let z : ◌≡◌ {A = ℕ} 0 1 = cc in absurd (omega arith)
good_in_lem least (m ∷ ms) [] ns e = let z : ◌≡◌ {A = ℕ} 0 1 = cc in absurd (omega arith)
good_in_lem least (m ∷ ms) (c ∷ cs) ns e = (elim (decimal_in least m c) as (λ (d : Option ℕ).
    (elim d [ Some n ↦ with_number n (numbers_in least ms cs) | None ↦ malformed ]) ≡ numbers ns
    → (elim d [ Some n ↦ n ∷ good_in least ms cs | None ↦ [] ]) ≡ ns) [
      | Some n ↦ λ f. good_next n (good_in least ms cs) ns (numbers_in least ms cs) (λ ks g. good_in_lem least ms cs ks g) f
      | None ↦ λ f. let z : ◌≡◌ {A = ℕ} 0 1 = cc in absurd (omega arith)
    ]) e

pub good_all : (name : List ℕ) (least : ℕ) (mosts : List ℕ) (l : Line) (ns : List ℕ) → numbers_of name least mosts l ≡ numbers ns
    → good_of name least mosts l ≡ ns
unfolding numbers_of good_of
good_all name least mosts [] ns e = let z : ◌≡◌ {A = ℕ} 0 1 = cc in absurd (omega arith)
good_all name least mosts (c ∷ cs) ns e = (elim (is_same_text c name) as (λ (t : Bool).
    elim t [ true ↦ numbers_in least mosts cs | false ↦ malformed ] ≡ numbers ns
    → elim t [ true ↦ good_in least mosts cs | false ↦ [] ] ≡ ns) [
      | true ↦ good_in_lem least mosts cs ns
      | false ↦ λ f. let z : ◌≡◌ {A = ℕ} 0 1 = cc in absurd (omega arith)
    ]) e

-- ---- what a reader's answer says of the line

-- a line of numbers: a good one's stand at the beginning of the words, and a bad one has none
pub record RowGood (name : List ℕ) (least : ℕ) (mosts : List ℕ) (l : Line) (v w : List ℕ) : Type 0 where
  pub ns : List ℕ
  pub says : numbers_of name least mosts l ≡ numbers ns
  pub limits : Limited least mosts ns
  pub put : w ≡ splice v 0 ns

module _ {name : List ℕ} {least : ℕ} {mosts : List ℕ} {l : Line} {r : Bool} {v w : List ℕ} (x : RowRead name least mosts l r v w) where
  row_of : (n : Numbers) → numbers_of name least mosts l ≡ n → r ≡ are_numbers n → r ≡ true → RowGood name least mosts l v w
  unfolding are_numbers
  row_of (numbers ns) e q g =
      record {
        ns = ns;
        says = e;
        limits = limited name least mosts l ns e;
        put = x.put ∙ ap (splice v 0) (good_all name least mosts l ns e);
      }
  row_of malformed e q g = absurd (true≢false (sym g ∙ q))

  none_of : (n : Numbers) → numbers_of name least mosts l ≡ n → r ≡ are_numbers n → r ≡ false → numbers_of name least mosts l ≡ malformed
  unfolding are_numbers
  none_of (numbers ns) e q g = absurd (true≢false (sym q ∙ g))
  none_of malformed e q g = e

  pub row_good : r ≡ true → RowGood name least mosts l v w
  row_good = row_of (numbers_of name least mosts l) refl x.good

  pub row_bad : r ≡ false → numbers_of name least mosts l ≡ malformed
  row_bad = none_of (numbers_of name least mosts l) refl x.good

-- a line that was good: its numbers, and what is left of the text behind it
pub record Good (text : List ℕ) (p : ℕ) (name : List ℕ) (least : ℕ) (mosts : List ℕ) {N : ℕ} (r : LineRead N) : Type 0 where
  pub says : numbers_at text p name least mosts ≡ numbers r.numbers
  pub limits : Limited least mosts r.numbers
  pub rest : drop 1 (lines_of (drop p text)) ≡ lines_of (drop r.next text)
  pub ends : r.next ≡ line_end text p
  pub within : r.next ≤ length text
  pub further : p < r.next

-- what the answer of `read_line` tells
module _ (text : List ℕ) (p : ℕ) (name : List ℕ) (least : ℕ) (mosts : List ℕ) {N : ℕ} where
  good_at : (ns : List ℕ) (e : ℕ) → numbers_at text p name least mosts ≡ numbers ns → e ≡ line_end text p
      → Good text p name least mosts (reads {N = N} ns e)
  good_at ns e q x =
      let t = taken text p name least mosts q in
      record {
        says = q;
        limits = limited name least mosts t.line ns t.says;
        rest = rw (x, t.first) refl;
        ends = x;
        within = omega (arith, t.within);
        further = omega (arith, t.further);
      }

  good_of_lem : (n : Numbers) {d : Option (LineRead N)} {r : LineRead N} → numbers_at text p name least mosts ≡ n → d ≡ line_read text p n → d ≡ Some r
      → Good text p name least mosts r
  unfolding line_read
  good_of_lem (numbers ns) e x g =
      subst (λ (l : LineRead N). Good text p name least mosts l) (same_Some (reads ns (line_end text p)) _ (sym x ∙ g)) (good_at ns (line_end text p) e refl)
  good_of_lem malformed e x g = absurd (none-some _ (sym x ∙ g))

  bad_of : (n : Numbers) {d : Option (LineRead N)} → numbers_at text p name least mosts ≡ n → d ≡ line_read text p n → d ≡ None
      → numbers_at text p name least mosts ≡ malformed
  unfolding line_read
  bad_of (numbers ns) e x g = absurd (none-some _ (sym g ∙ x))
  bad_of malformed e x g = e

  module _ {d : Option (LineRead N)} (e : d ≡ line_read text p (numbers_at text p name least mosts)) where
    pub good_read : {r : LineRead N} → d ≡ Some r → Good text p name least mosts r
    good_read = good_of_lem (numbers_at text p name least mosts) refl e

    pub bad_read : d ≡ None → numbers_at text p name least mosts ≡ malformed
    bad_read = bad_of (numbers_at text p name least mosts) refl e
