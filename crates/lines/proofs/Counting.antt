-- The cells of a line, one behind the other: the first one from a place on ends at the tab that is found, or at the line's end. They are one more than the tabs,
-- and the last one stands behind the last tab. Assumes nothing.
use Rattle.std.specs.Prelude.{Option, Some, None, position, count_by}
use Rattle.std.proofs.lemmas.List.{length-reverse, get_or-reverse}
use Rattle.std.proofs.lemmas.List.Recursion.{is_count_by}
use Rattle.std.proofs.lemmas.List.Sums.{position_or_len_is}
use mathlib.Core.Path.{◌≡◌, refl, ap, ◌∙◌}
use mathlib.Core.Bool.{Bool, true, false, cond}
use mathlib.Core.List.{List, [], ◌∷◌, ◌++◌, reverse}
use mathlib.Core.Logic.{⊎_elim}
use Prim.Native.Nat.{ℕ, zero, suc, ◌+◌, ◌-◌, ◌≤◌, ◌<◌}
use native.Mathlib.Omega.{arith}
use lib.Dec.{eqb, ltb}
use lib.ListN.{length, take, drop, get_or, length-drop}
use Rattle.std.proofs.Common.{get_or-drop}
use lib.Seq.{take_all}
use borrow.Author.Tests.{lt-ltb, le-ltb}
use Rattle.mem.specs.Slice.{view}
use Rattle.mem.specs.Cases.{lt_or_le}
use Rattle.rules.specs.Lines.{tab_byte, parts, on_first, Line}
use Rattle.lines.specs.Scan.{place_of, part_next, part_last, parts_here, parts_later, parts_some, place_is, parts_cut}
use Rattle.lines.specs.Read.{LastCell}
use Rattle.lines.proofs.Scanning.{first_place, found_at, found_none}

-- ---- the cells of a line behind the tab at `at`; there are none behind its end
unfoldable pub cells_from : List ℕ → ℕ → Line
cells_from line at = cond (ltb at (length line)) (parts tab_byte (drop (at + 1) line)) []

module _ (line : List ℕ) where
  pub cells_more : (at : ℕ) → at < length line → cells_from line at ≡ parts tab_byte (drop (at + 1) line)
  unfolding cells_from
  cells_more at h = rw (lt-ltb at (length line) h) refl

  pub cells_end : (at : ℕ) → length line ≤ at → cells_from line at ≡ []
  unfolding cells_from
  cells_end at h = rw (le-ltb at (length line) h) refl

  -- the first cell from p on ends at q
  pub first_cell : (p q : ℕ) → p ≤ length line → q ≡ p + place_of tab_byte (drop p line) → parts tab_byte (drop p line) ≡ view line p (q - p) ∷ cells_from line q
  first_cell p q h e =
      let k : q - p ≡ place_of tab_byte (drop p line) = omega arith in
      ⊎_elim
      (λ (a : q < length line). rw (k, cells_more q a, e) (part_next tab_byte line p (omega arith)))
      (λ (a : length line ≤ q). rw (cells_end q a, take_all (q - p) (drop p line) (rw length-drop (omega arith))) (part_last tab_byte line p (omega arith)))
      (lt_or_le q (length line))

-- ---- the cells are one more than the tabs
on_length : (c : ℕ) (ps : List (List ℕ)) → 0 < length ps → length (on_first c ps) ≡ length ps
unfolding on_first
on_length c [] h = absurd (omega arith)
on_length c (p ∷ ps) h = refl

-- the parts but one
module _ (b : ℕ) where
  cuts : List ℕ → ℕ
  cuts l = length (parts b l) - 1

  cuts_none : cuts [] ≡ 0
  unfolding cuts parts
  cuts_none = refl

  cuts_turn : (c : ℕ) (cs : List ℕ) → cuts (c ∷ cs) ≡ cond (eqb c b) (1 + cuts cs) (cuts cs)
  unfolding cuts
  cuts_turn c cs =
      let some = parts_some b cs in
      (elim (eqb c b) as (λ (t : Bool). eqb c b ≡ t → length (parts b (c ∷ cs)) - 1 ≡ cond t (1 + (length (parts b cs) - 1)) (length (parts b cs) - 1)) [
        | true ↦ λ e. rw (parts_here b c cs e) (omega arith)
        | false ↦ λ e. rw (parts_later b c cs e, on_length c (parts b cs) some) refl
      ]) refl

  pub parts_counted : (l : List ℕ) → count_by (λ (x : ℕ). eqb x b) l + 1 ≡ length (parts b l)
  unfolding cuts
  parts_counted l =
      let some = parts_some b l in
      let counted = is_count_by cuts (λ (x : ℕ). eqb x b) cuts_none cuts_turn l in
      omega arith

-- ---- the last cell, found from the line's end
before_place : (b : ℕ) (l : List ℕ) (k : ℕ) → k < place_of b l → eqb (get_or l k 0) b ≡ false
unfolding place_of
before_place b [] k h = absurd (omega arith)
before_place b (c ∷ cs) zero h = (elim (eqb c b) as (λ (t : Bool). eqb c b ≡ t → 0 < elim t [ true ↦ 0 | false ↦ place_of b cs + 1 ] → eqb c b ≡ false) [
  | true ↦ λ e i. absurd (omega arith)
  | false ↦ λ e i. e
]) refl h
before_place b (c ∷ cs) (suc k) h = (elim (eqb c b) as (λ (t : Bool). suc k < elim t [ true ↦ 0 | false ↦ place_of b cs + 1 ] → eqb (get_or cs k 0) b ≡ false) [
  | true ↦ λ i. absurd (omega arith)
  | false ↦ λ i. before_place b cs k (omega arith)
]) h

-- no b stands behind the last one
free_behind : (b : ℕ) (l : List ℕ) (k : ℕ) → k ≡ place_of b (reverse l) → k ≤ length l → place_of b (drop (length l - k) l) ≡ k
free_behind b l k e h =
    let end = drop (length l - k) l in
    let n : length end ≡ k = length-drop (length l - k) l ∙ omega arith in
    first_place b end ∙ position_or_len_is (λ (x : ℕ). eqb x b) end k 0 (omega arith) free (λ i. absurd (omega arith))
  where
    free : (j : ℕ) → j < k → eqb (get_or (drop (length l - k) l) j 0) b ≡ false
    free j i =
        let same : length l - 1 - (k - 1 - j) ≡ length l - k + j = omega arith in
        rw (get_or-drop (length l - k) l j 0, ← same, ← get_or-reverse l (k - 1 - j) 0 (omega arith)) (before_place b (reverse l) (k - 1 - j) (omega arith))

module _ (line : List ℕ) {r : Option ℕ} (e : r ≡ position (λ (x : ℕ). eqb x tab_byte) (reverse line)) where
  pub last_found : {k : ℕ} → r ≡ Some k → LastCell line (length line - k)
  last_found {k} q =
      let f = found_at tab_byte (reverse line) e q in
      let n = length-reverse line in
      let p = length line - k in
      let free = free_behind tab_byte line k f.0 (omega arith) in
      let i : length line - 1 - k ≡ p - 1 = omega arith in
      let j : p - 1 + 1 ≡ p = omega arith in
      let x : get_or line (p - 1) 0 ≡ tab_byte =
      rw (← i, ← get_or-reverse line k 0 (omega arith), f.0) (place_is tab_byte (reverse line) (omega arith)) in
      record {
        within = omega arith;
        alone = λ (z : p ≡ 0). absurd (omega arith);
        behind = λ (z : 0 < p). parts_cut tab_byte line (p - 1) (omega arith) x
            ∙ rw j (ap (λ (ps : Line). parts tab_byte (take (p - 1) line) ++ ps) (part_last tab_byte line p (omega arith)));
      }

  pub last_alone : r ≡ None → LastCell line 0
  last_alone q =
      let f = found_none tab_byte (reverse line) e q in
      let n = length-reverse line in
      let free = free_behind tab_byte line (length line) (omega arith) (omega arith) in
      let z : length line - length line ≡ 0 = omega arith in
      let none = rw z at free in
      record {
        within = omega arith;
        alone = λ (x : 0 ≡ 0). part_last tab_byte line 0 (omega arith);
        behind = λ (h : 0 < 0). absurd (omega arith);
      }
