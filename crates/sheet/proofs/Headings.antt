-- The heading lines, one after the other: a line that is bad is the refusal, and behind a good one the heading comes to what the lines that are left come to.
-- A line of a name and one word is known by its whole text, since its cells joined by tabs are the text again. Assumes nothing.
use Rattle.std.specs.Prelude.{Option, Some, None, Result, Ok}
use mathlib.Core.Path.{◌≡◌, refl, sym, ap, ◌∙◌, subst}
use mathlib.Core.Bool.{Bool, true, false, true≢false}
use mathlib.Core.List.{List, [], ◌∷◌, ◌++◌}
use Prim.Native.Nat.{ℕ, ◌+◌, ◌≤◌, ◌<◌}
use native.Mathlib.Omega.{arith}
use lib.Dec.{eqb}
use lib.ListN.{length, take, drop, get_or}
use lib.Seq.{drop-drop}
use borrow.Author.Tests.{eqb-true, eq-eqb}
use Rattle.ints.specs.Bools.{and_left, and_right}
use Rattle.rules.specs.Lines.{ascii, tab_byte, lf, is_same_text, on_first, parts, Line, lines_of, malformed}
use Rattle.rules.specs.Sheet.{Sheet, Read, bad, unit_name, mm_name, in_name, cell_name, nvp_name, grid_name, line_at, need, need_unit, cell_numbers, nvp_numbers}
use Rattle.rules.specs.Sheet.{grid_numbers, cell_least, cell_most, number_most, heading_lines, no_contours, read_heading}
use Rattle.lines.specs.declared.line.LineRead.{LineRead}
use Rattle.lines.specs.Scan.{place_of, parts_some}
use Rattle.lines.specs.Read.{line_end, numbers_at}
use Rattle.lines.specs.Taken.{line_at_lem, no_cells, Good}
use Rattle.sheet.specs.declared.heading.Heading.{Heading}
use Rattle.sheet.specs.declared.refusal.SheetRefusal.{SheetRefusal}
use Rattle.sheet.specs.Reading.{UnitIs, from_grid, from_nvp, from_cell, sheet_of, headed_as, BehindIs, Behind}

-- ---- a text is the same as another, and a text is its parts
same_is : (a b : List ℕ) → is_same_text a b ≡ true → a ≡ b
unfolding is_same_text
same_is [] [] e = refl
same_is [] (d ∷ ds) e = absurd (true≢false (sym e))
same_is (c ∷ cs) [] e = absurd (true≢false (sym e))
same_is (c ∷ cs) (d ∷ ds) e =
    rw (eqb-true c d (and_left (eqb c d) (is_same_text cs ds) e), same_is cs ds (and_right (eqb c d) (is_same_text cs ds) e)) refl

same_self : (a : List ℕ) → is_same_text a a ≡ true
unfolding is_same_text
same_self [] = refl
same_self (c ∷ cs) = rw (eq-eqb c c refl) (same_self cs)

-- parts with the byte b between them
unfoldable joined : ℕ → List (List ℕ) → List ℕ
joined b [] = []
joined b (p ∷ []) = p
joined b (p ∷ (q ∷ ps)) = p ++ (b ∷ joined b (q ∷ ps))

module _ (b c : ℕ) where
  joined_nil : (ps : List (List ℕ)) → 0 < length ps → joined b ([] ∷ ps) ≡ b ∷ joined b ps
  unfolding joined
  joined_nil [] h = absurd (omega arith)
  joined_nil (p ∷ ps) h = refl

  joined_on : (ps : List (List ℕ)) → 0 < length ps → joined b (on_first c ps) ≡ c ∷ joined b ps
  unfolding joined on_first
  joined_on [] h = absurd (omega arith)
  joined_on (p ∷ []) h = refl
  joined_on (p ∷ (q ∷ ps)) h = refl

parts_joined : (b : ℕ) (l : List ℕ) → joined b (parts b l) ≡ l
unfolding joined parts
parts_joined b [] = refl
parts_joined b (c ∷ cs) = (elim (eqb c b) as (λ (t : Bool). eqb c b ≡ t → joined b (elim t [ true ↦ [] ∷ parts b cs | false ↦ on_first c (parts b cs) ]) ≡ c ∷ cs) [
  | true ↦ λ e. joined_nil b c (parts b cs) (parts_some b cs) ∙ rw (eqb-true c b e, parts_joined b cs) refl
  | false ↦ λ e. joined_on b c (parts b cs) (parts_some b cs) ∙ ap (λ (l : List ℕ). c ∷ l) (parts_joined b cs)
]) refl

-- ---- the first line

-- the two lines that say a unit
abbrev pub mm_line : List ℕ
mm_line = 117 ∷ 110 ∷ 105 ∷ 116 ∷ 9 ∷ 109 ∷ 109 ∷ []

abbrev pub in_line : List ℕ
in_line = 117 ∷ 110 ∷ 105 ∷ 116 ∷ 9 ∷ 105 ∷ 110 ∷ []

module _ (line : List ℕ) (f : Bool → Read Sheet) where
  pub unit_mm : is_same_text line mm_line ≡ true → need_unit (parts tab_byte line) f ≡ f false
  unfolding need_unit parts on_first is_same_text unit_name mm_name ascii
  unit_mm e = rw (same_is line mm_line e) refl

  pub unit_in : is_same_text line in_line ≡ true → need_unit (parts tab_byte line) f ≡ f true
  unfolding need_unit parts on_first is_same_text unit_name mm_name in_name ascii
  unit_in e = rw (same_is line in_line e) refl

  other_name : (a b : List ℕ) → is_same_text a unit_name ≡ false → need_unit (a ∷ (b ∷ [])) f ≡ bad 21 1
  unfolding need_unit
  other_name a b e = rw (e, need_unit) refl

  other_unit : (a b : List ℕ) → is_same_text a unit_name ≡ true → is_same_text b mm_name ≡ false → is_same_text b in_name ≡ false → need_unit (a ∷ (b ∷ [])) f ≡ bad 21 1
  unfolding need_unit
  other_unit a b e g h = rw (e, need_unit, g, h) refl

  -- two cells that are a unit line's
  whole : (a b w full : List ℕ) → parts tab_byte line ≡ a ∷ (b ∷ []) → unit_name ++ (tab_byte ∷ w) ≡ full → is_same_text line full ≡ false
      → is_same_text a unit_name ≡ true → is_same_text b w ≡ false
  unfolding joined
  whole a b w full p q n e = (elim (is_same_text b w) as (λ (t : Bool). is_same_text b w ≡ t → t ≡ false) [
    | true ↦ λ g.
        let x : line ≡ a ++ (tab_byte ∷ b) = sym (parts_joined tab_byte line) ∙ ap (joined tab_byte) p in
        let y : line ≡ full = x ∙ rw (same_is a unit_name e, same_is b w g) q in
        absurd (true≢false (sym (same_self full) ∙ rw y at n))
    | false ↦ λ g. refl
  ]) refl

  other : (cells : Line) → parts tab_byte line ≡ cells → is_same_text line mm_line ≡ false → is_same_text line in_line ≡ false → need_unit cells f ≡ bad 21 1
  unfolding need_unit unit_name mm_name in_name ascii
  other [] p m n = refl
  other (a ∷ []) p m n = refl
  other (a ∷ (b ∷ [])) p m n = (elim (is_same_text a unit_name) as (λ (t : Bool). is_same_text a unit_name ≡ t → need_unit (a ∷ (b ∷ [])) f ≡ bad 21 1) [
    | true ↦ λ e. other_unit a b e (whole a b mm_name mm_line p refl m e) (whole a b in_name in_line p refl n e)
    | false ↦ λ e. other_name a b e
  ]) refl
  other (a ∷ (b ∷ (c ∷ cs))) p m n = refl

  pub unit_other : is_same_text line mm_line ≡ false → is_same_text line in_line ≡ false → need_unit (parts tab_byte line) f ≡ bad 21 1
  unit_other m n = other (parts tab_byte line) refl m n

-- the line that ends at e is the first
module _ (text : List ℕ) {e : ℕ} (q : e ≡ 0 + place_of lf (drop 0 text)) where
  first_line : e < length text → lines_of text ≡ parts tab_byte (take e text) ∷ lines_of (drop (e + 1) text)
  unfolding line_end
  first_line h = let x : place_of lf text ≡ e = omega arith in let y : 0 + e + 1 ≡ e + 1 = omega arith in rw (x, y) at (line_at_lem text 0 (omega arith))

  pub unit_known : (inches : Bool) → e < length text → ((f : Bool → Read Sheet) → need_unit (parts tab_byte (take e text)) f ≡ f inches)
      → UnitIs text (Some (inches, e + 1))
  unfolding UnitIs line_at
  unit_known inches h k =
      let l = first_line h in
      ((λ f. rw l (k f)), (rw l refl), omega arith)

  pub unit_missing : e < length text → ((f : Bool → Read Sheet) → need_unit (parts tab_byte (take e text)) f ≡ bad 21 1) → UnitIs text None
  unfolding UnitIs line_at
  unit_missing h k f = rw (first_line h) (k f)

  pub unit_open : length text ≤ e → UnitIs text None
  unfolding UnitIs line_at need_unit
  unit_open h f = ap (λ (l : Line). need_unit l f) (no_cells text 0 (omega arith))

-- ---- all heading lines
heading_steps : (ls : List Line) → read_heading ls ≡ need_unit (line_at ls 0) (λ inches. from_cell inches (drop 1 ls))
unfolding read_heading line_at from_cell from_nvp from_grid
heading_steps [] = refl
heading_steps (a ∷ []) = refl
heading_steps (a ∷ (b ∷ [])) = refl
heading_steps (a ∷ (b ∷ (c ∷ []))) = refl
heading_steps (a ∷ (b ∷ (c ∷ (d ∷ ls)))) = refl

module _ (text : List ℕ) {u : Option (Bool × ℕ)} (is : UnitIs text u) where
  pub heading_missing : u ≡ None → read_heading (lines_of text) ≡ bad 21 1
  unfolding UnitIs
  heading_missing e = heading_steps (lines_of text) ∙ subst (UnitIs text) e is (λ inches. from_cell inches (drop 1 (lines_of text)))

  module _ {inches : Bool} {p : ℕ} (e : u ≡ Some (inches, p)) where
    pub heading_known : read_heading (lines_of text) ≡ from_cell inches (lines_of (drop p text))
    unfolding UnitIs
    heading_known =
        let k = subst (UnitIs text) e is in
        heading_steps (lines_of text) ∙ k.0 (λ i. from_cell i (drop 1 (lines_of text))) ∙ ap (from_cell inches) (sym k.1)

    pub known_within : p ≤ length text
    unfolding UnitIs
    known_within = (subst (UnitIs text) e is).2

    -- the lines behind three more are those behind the heading
    pub known_behind : (r : Result Heading SheetRefusal) → BehindIs text (drop 3 (lines_of (drop p text))) r → Behind text r
    unfolding UnitIs
    known_behind r b =
        let q : drop 3 (lines_of (drop p text)) ≡ drop heading_lines (lines_of text) = ap (drop 3) (subst (UnitIs text) e is).1 ∙ drop-drop 3 1 (lines_of text) in
        subst (λ (ls : List Line). BehindIs text ls r) q b

-- ---- the cell line, the nvp line and the grid line
abbrev pub CellGood : List ℕ → ℕ → LineRead 2 → Type 0
CellGood text p r = Good text p cell_name cell_least (cell_most ∷ cell_most ∷ []) r

abbrev pub NvpGood : List ℕ → ℕ → LineRead 1 → Type 0
NvpGood text p r = Good text p nvp_name 0 (number_most ∷ []) r

abbrev pub GridGood : List ℕ → ℕ → LineRead 3 → Type 0
GridGood text p r = Good text p grid_name 0 (number_most ∷ number_most ∷ number_most ∷ []) r

-- their numbers are within the limits
module _ {text : List ℕ} {p : ℕ} where
  pub cell_most_lem : {r : LineRead 2} → CellGood text p r → (get_or r.numbers 0 0 ≤ cell_most) × (get_or r.numbers 1 0 ≤ cell_most)
  cell_most_lem g = ((g.limits.most 0 (omega arith)).1, (g.limits.most 1 (omega arith)).1)

  pub nvp_most : {r : LineRead 1} → NvpGood text p r → get_or r.numbers 0 0 ≤ number_most
  nvp_most g = (g.limits.most 0 (omega arith)).1

  pub grid_most : {r : LineRead 3} → GridGood text p r
      → (get_or r.numbers 0 0 ≤ number_most) × (get_or r.numbers 1 0 ≤ number_most) × (get_or r.numbers 2 0 ≤ number_most)
  grid_most g = ((g.limits.most 0 (omega arith)).1, (g.limits.most 1 (omega arith)).1, (g.limits.most 2 (omega arith)).1)

module _ (text : List ℕ) (p : ℕ) (inches : Bool) where
  pub cell_bad : numbers_at text p cell_name cell_least (cell_most ∷ cell_most ∷ []) ≡ malformed → from_cell inches (lines_of (drop p text)) ≡ bad 22 2
  unfolding from_cell cell_numbers line_at numbers_at need
  cell_bad e = rw e refl

  module _ {cell : LineRead 2} (g : CellGood text p cell) where
    cell_good : from_cell inches (lines_of (drop p text)) ≡ from_nvp inches cell.numbers (lines_of (drop cell.next text))
    unfolding from_cell cell_numbers line_at numbers_at need
    cell_good = rw (g.says, g.rest) refl

    pub nvp_bad : numbers_at text cell.next nvp_name 0 (number_most ∷ []) ≡ malformed → from_cell inches (lines_of (drop p text)) ≡ bad 22 3
    unfolding from_nvp nvp_numbers line_at numbers_at need
    nvp_bad e = cell_good ∙ rw e refl

    module _ {limit : LineRead 1} (h : NvpGood text cell.next limit) where
      nvp_good : from_cell inches (lines_of (drop p text)) ≡ from_grid inches cell.numbers limit.numbers (lines_of (drop limit.next text))
      unfolding from_nvp nvp_numbers line_at numbers_at need
      nvp_good = cell_good ∙ rw (h.says, h.rest) refl

      pub grid_bad : numbers_at text limit.next grid_name 0 (number_most ∷ number_most ∷ number_most ∷ []) ≡ malformed → from_cell inches (lines_of (drop p text)) ≡ bad 22 4
      unfolding from_grid grid_numbers line_at numbers_at need
      grid_bad e = nvp_good ∙ rw e refl

      module _ {grid : LineRead 3} (k : GridGood text limit.next grid) where
        abbrev headed : Heading
        headed = record {
          inches = inches;
          size = get_or cell.numbers 0 0;
          height = get_or cell.numbers 1 0;
          nvp = get_or limit.numbers 0 0;
          w = get_or grid.numbers 0 0;
          h = get_or grid.numbers 1 0;
          border = get_or grid.numbers 2 0;
          at = grid.next;
        }

        pub grid_good : from_cell inches (lines_of (drop p text)) ≡ headed_as (Ok headed)
        unfolding from_grid grid_numbers line_at numbers_at need headed_as sheet_of no_contours
        grid_good = nvp_good ∙ rw k.says refl

        pub all_behind : BehindIs text (drop 3 (lines_of (drop p text))) (Ok headed)
        unfolding BehindIs
        all_behind =
            let two : drop 2 (lines_of (drop p text)) ≡ lines_of (drop limit.next text) =
            sym (drop-drop 1 1 (lines_of (drop p text))) ∙ ap (drop 1) g.rest ∙ h.rest in
            record { within = k.within; rest = sym (sym (drop-drop 1 2 (lines_of (drop p text))) ∙ ap (drop 1) two ∙ k.rest) }
