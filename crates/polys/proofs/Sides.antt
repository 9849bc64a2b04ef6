-- The search for the shared side: rows of sides of a from the last down, and in each row the sides of b from the first up. The answer is always the
-- answer of what is left. Assumes nothing.
use Rattle.std.specs.Prelude.{Option, Some, None}
use mathlib.Core.Path.{◌≡◌, refl, sym, ◌∙◌}
use mathlib.Core.Bool.{Bool, true, false, ◌&&◌, ◌||◌}
use mathlib.Core.List.{List}
use Prim.Native.Nat.{ℕ, ◌+◌, ◌-◌, ◌≤◌, ◌<◌}
use native.Mathlib.Omega.{arith}
use lib.Dec.{eqb}
use lib.ListN.{length}
use Rattle.mem.specs.Loops.{Left, turn, next, end}
use Rattle.rules.specs.Lists.{down}
use Rattle.laws.proofs.Lists.{down_turn}
use Rattle.laws.proofs.Ring.{next_in}
use Rattle.rules.specs.Mesh.{side_start, side_end}
use Rattle.rules.specs.Merge.{is_along, is_opposite, is_equal, sides_at, or_sides, shared_by, shared_side}

module _ (a b : List ℕ) where
  -- what the rows below i find
  unfoldable pub below : ℕ → Option (ℕ × ℕ)
  below i = down None or_sides (shared_by a b) i

  -- the rows below i are left
  pub record Rows (i : ℕ) : Type 0 where
    pub same : shared_side a b ≡ below i
    pub most : i ≤ length a

  pub rows_all : (n : ℕ) → n ≡ length a → Rows n
  unfolding shared_side below
  rows_all n e = record { same = rw e; most = omega arith }

  module _ {i : ℕ} (r : Rows i) where
    pub rows_none : i ≤ 0 → None ≡ shared_side a b
    unfolding below down
    rows_none h = let z : i ≡ 0 = omega arith in sym (rw z at r.same)

    rows_turn : 0 < i → shared_side a b ≡ or_sides (shared_by a b (i - 1)) (below (i - 1))
    unfolding below
    rows_turn h = r.same ∙ down_turn None or_sides (shared_by a b) i h

    pub rows_next : {s : Option (ℕ × ℕ)} → 0 < i → s ≡ shared_by a b (i - 1) → s ≡ None → Rows (i - 1)
    unfolding or_sides
    rows_next h e f = record { same = rw (← e, f) at (rows_turn h); most = omega (arith, r.most) }

    pub rows_hit : {s : Option (ℕ × ℕ)} (k j : ℕ) → 0 < i → s ≡ shared_by a b (i - 1) → s ≡ Some (k, j) → Some (k, j) ≡ shared_side a b
    unfolding or_sides
    rows_hit k j h e f = sym (rw (← e, f) at (rows_turn h))

  -- row i from side j on is left
  pub record Row (i j : ℕ) : Type 0 where
    pub left : Left None or_sides (sides_at a b i) (λ x. x) (shared_by a b i) (length b) j

  row_start : (i : ℕ) → Row i 0
  unfolding shared_by
  row_start i = record { left = record { same = refl } }

  module _ {i j : ℕ} (r : Row i j) where
    pub row_next : j < length b → is_equal a b i j ≡ false → Row i (j + 1)
    unfolding sides_at or_sides
    row_next h e = record { left = next r.left h (λ x. rw e) }

    pub row_hit : j < length b → is_equal a b i j ≡ true → Some (i, j) ≡ shared_by a b i
    unfolding sides_at or_sides
    row_hit h e = sym (turn r.left h ∙ rw e)

    pub row_end : length b ≤ j → None ≡ shared_by a b i
    row_end h = sym (end r.left h)

  -- a polygon of no sides
  pub row_none : (i : ℕ) → length b ≡ 0 → None ≡ shared_by a b i
  row_none i e = row_end (row_start i) (omega arith)

  -- the same, with the corner in hand where side j starts
  pub record RowFrom (i j c : ℕ) : Type 0 where
    pub row : Row i j
    pub start : j < length b → c ≡ side_start b j

  pub from_start : (i : ℕ) {c : ℕ} → c ≡ side_start b 0 → RowFrom i 0 c
  from_start i e = record { row = row_start i; start = λ h. e }

  -- a side ends where the next one starts
  pub from_more : {i j c d : ℕ} → RowFrom i j c → j < length b → is_equal a b i j ≡ false → d ≡ side_end b j → RowFrom i (j + 1) d
  from_more {j} r h e f = record { row = row_next r.row h e; start = λ (k : j + 1 < length b). f ∙ rw (next_in j (length b) k) refl }

  -- the test on four corners in hand
  pub equal_made : (i j : ℕ) {p q u v : ℕ} {t : Bool} → p ≡ side_start a i → q ≡ side_end a i → u ≡ side_start b j → v ≡ side_end b j
      → t ≡ ((eqb p u && eqb q v) || (eqb p v && eqb q u)) → t ≡ is_equal a b i j
  unfolding is_equal is_along is_opposite
  equal_made i j ep eq eu ev e = rw (e, ep, eq, eu, ev)

  pub opposite_made : (i j : ℕ) {p q u v : ℕ} {t : Bool} → p ≡ side_start a i → q ≡ side_end a i → u ≡ side_start b j → v ≡ side_end b j
      → t ≡ (eqb p v && eqb q u) → t ≡ is_opposite a b i j
  unfolding is_opposite
  opposite_made i j ep eq eu ev e = rw (e, ep, eq, eu, ev)
