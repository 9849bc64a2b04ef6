-- The mesh line: four cells, of which the last one is read as a whole number and the three before it as a line of two numbers. Assumes nothing.
use Rattle.std.specs.Prelude.{Option, Some, None}
use Rattle.std.proofs.lemmas.Option.{none-some, same_Some}
use mathlib.Core.Path.{◌≡◌, refl, sym, ap, ◌∙◌}
use mathlib.Core.List.{List, [], ◌∷◌, ◌++◌}
use mathlib.Core.Logic.{⊎_elim, ◌≢◌}
use Prim.Native.Nat.{ℕ, ◌-◌, ◌≤◌, ◌<◌}
use native.Mathlib.Omega.{arith}
use lib.IntN.{ℤ}
use lib.ListN.{length, take, drop, get_or, length-append, length-drop}
use lib.Seq.{take_at, get_or_at, take_all}
use borrow.Author.Tests.{eq-eqb, ne_eqb}
use Rattle.mem.specs.Slice.{view}
use Rattle.mem.specs.Cases.{lt_or_le}
use Rattle.rules.specs.Lines.{tab_byte, parts, Line, Numbers, numbers, malformed, numbers_of, signed_in}
use Rattle.rules.specs.Sheet.{mesh_name, Read, need}
use Rattle.rules.specs.CheckSheet.{count_most, total_most, need_whole, need_mesh}
use Rattle.rules.specs.Checker.{Claim}
use Rattle.lines.specs.Read.{said, LastCell}
use Rattle.lines.specs.Taken.{Limited, limited}
use Rattle.checksheet.specs.Reading.{MeshIs}

-- the limits of the two counts
abbrev count_mosts : List ℕ
count_mosts = count_most ∷ count_most ∷ []

-- not four cells
pub other_count : (l : Line) → length l ≢ 4 → MeshIs l None
unfolding MeshIs need_mesh
other_count l h line f = rw (ne_eqb (length l) 4 h, need_mesh) refl

-- what four cells come to
four_cells : (l a : Line) (z : List ℕ) → l ≡ a ++ (z ∷ []) → length l ≡ 4 → (line : ℕ) (f : ℕ → ℕ → ℤ → Read Claim)
    → need_mesh line l f ≡ need line (numbers_of mesh_name 0 count_mosts a) (λ ns. need_whole line (signed_in total_most z) (λ t. f (get_or ns 0 0) (get_or ns 1 0) t))
unfolding need_mesh
four_cells l a z e h line f =
    let three : length a ≡ 3 = omega (arith, ap length e ∙ length-append a (z ∷ [])) in
    let x : take 3 l ≡ a = ap (take 3) e ∙ take_at a (z ∷ []) 3 three in
    let y : get_or l 3 [] ≡ z = ap (λ (m : Line). get_or m 3 []) e ∙ get_or_at a z [] [] 3 three in
    rw (eq-eqb (length l) 4 h, need_mesh, x, y) refl

-- the counts that a reader's answer tells
pub record Counts (l : Line) (ns : List ℕ) : Type 0 where
  pub says : numbers_of mesh_name 0 count_mosts l ≡ numbers ns
  pub limits : Limited 0 count_mosts ns

module _ (a : Line) {d : Option (List ℕ)} where
  counts_of : (n : Numbers) {ns : List ℕ} → numbers_of mesh_name 0 count_mosts a ≡ n → d ≡ said n → d ≡ Some ns → Counts a ns
  unfolding said
  counts_of (numbers ms) {ns} e x g =
      let q : ms ≡ ns = same_Some ms ns (sym x ∙ g) in
      let s : numbers_of mesh_name 0 count_mosts a ≡ numbers ns = e ∙ ap numbers q in
      record { says = s; limits = limited mesh_name 0 count_mosts a ns s }
  counts_of malformed e x g = absurd (none-some _ (sym x ∙ g))

  none_of : (n : Numbers) → numbers_of mesh_name 0 count_mosts a ≡ n → d ≡ said n → d ≡ None → numbers_of mesh_name 0 count_mosts a ≡ malformed
  unfolding said
  none_of (numbers ms) e x g = absurd (none-some _ (sym g ∙ x))
  none_of malformed e x g = e

  module _ (e : d ≡ said (numbers_of mesh_name 0 count_mosts a)) where
    pub counts_good : {ns : List ℕ} → d ≡ Some ns → Counts a ns
    counts_good = counts_of (numbers_of mesh_name 0 count_mosts a) refl e

    counts_none : d ≡ None → numbers_of mesh_name 0 count_mosts a ≡ malformed
    counts_none = none_of (numbers_of mesh_name 0 count_mosts a) refl e

module _ {line : List ℕ} {p : ℕ} (l : LastCell line p) (h : length (parts tab_byte line) ≡ 4) where
  -- the last of them has a tab in front of it
  pub last_later : 0 < p
  last_later = ⊎_elim
      (λ (a : 0 < p). a)
      (λ (a : p ≤ 0). let e = ap length (l.alone (omega arith)) in absurd (omega arith))
      (lt_or_le 0 p)

  -- the cells before it
  abbrev front : Line
  front = parts tab_byte (take (p - 1) line)

  whole : (k : ℕ) (f : ℕ → ℕ → ℤ → Read Claim)
      → need_mesh k (parts tab_byte line) f
      ≡ need k (numbers_of mesh_name 0 count_mosts front)
      (λ ns. need_whole k (signed_in total_most (view line p (length line - p))) (λ t. f (get_or ns 0 0) (get_or ns 1 0) t))
  whole k f =
      let q : view line p (length line - p) ≡ drop p line = take_all (length line - p) (drop p line) (rw length-drop (omega arith)) in
      rw q (four_cells (parts tab_byte line) front (drop p line) (l.behind last_later) h k f)

  module _ {d : Option (List ℕ)} (e : d ≡ said (numbers_of mesh_name 0 count_mosts front)) where
    pub counts_bad : d ≡ None → MeshIs (parts tab_byte line) None
    unfolding MeshIs need
    counts_bad g k f = whole k f ∙ rw (counts_none front e g) refl

    module _ {ns : List ℕ} (g : d ≡ Some ns) {s : Option ℤ} (q : s ≡ signed_in total_most (view line p (length line - p))) where
      -- the counts are small
      pub counts_small : (get_or ns 0 0 ≤ count_most) × (get_or ns 1 0 ≤ count_most)
      counts_small = let y = counts_good front e g in ((y.limits.most 0 (omega arith)).1, (y.limits.most 1 (omega arith)).1)

      pub total_bad : s ≡ None → MeshIs (parts tab_byte line) None
      unfolding MeshIs need need_whole
      total_bad x k f = whole k f ∙ rw ((counts_good front e g).says, sym q ∙ x) refl

      -- t is the total z as the bits say it
      pub mesh_counted : {z t : ℤ} → s ≡ Some z → t ≡ z
          → MeshIs (parts tab_byte line) (Some (record { places = get_or ns 0 0; polygons = get_or ns 1 0; total = t }))
      unfolding MeshIs need need_whole
      mesh_counted x u =
          record {
            places = counts_small.0;
            polygons = counts_small.1;
            says = λ k f. whole k f ∙ rw ((counts_good front e g).says, sym q ∙ x, u) refl;
          }
