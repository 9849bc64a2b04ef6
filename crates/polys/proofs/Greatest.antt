-- The search for the best pair, of all pairs or of the rows: what is left, from the best pair so far, gives the best of all. Assumes nothing.
use mathlib.Core.Path.{◌≡◌, refl, ap, ◌∙◌}
use mathlib.Core.List.{List}
use Prim.Native.Nat.{ℕ, ◌+◌, ◌≤◌, ◌<◌}
use native.Mathlib.Omega.{arith}
use lib.ListN.{length}
use Rattle.mem.specs.Loops.{Doing, doing_more, doing_end}
use Rattle.rules.specs.Mesh.{Polygon}
use Rattle.rules.specs.Merge.{no_pair, merge_value, greater, best_of_row, best_pair}
use Rattle.rules.specs.declared.Vertex.{Vertex}
use Rattle.rules.specs.declared.Pair.{Pair}
use Rattle.laws.specs.Rows.{row_of, row_against}
use Rattle.laws.proofs.Rows.{best_rows}

module _ (vs : List Vertex) (nvp : ℕ) (ps : List Polygon) where
  -- polygon p against q, with the best pair so far
  unfoldable pub row_step : ℕ → ℕ → Pair → Pair
  row_step p q s = greater s (merge_value vs nvp ps p q)

  -- row p, from `best` on: s is the best up to polygon q
  pub record Searching (p : ℕ) (best : Pair) (n : ℕ) (s : Pair) (q : ℕ) : Type 0 where
    pub doing : Doing (row_step p) (best_of_row vs nvp ps p best) n s q
    pub past : p < q

  pub row_begin : (p n : ℕ) (best : Pair) → length ps ≡ n → Searching p best n best (p + 1)
  unfolding best_of_row row_step
  row_begin p n best e = record { doing = record { same = rw (← e) refl }; past = omega arith }

  module _ {p n q : ℕ} {best s : Pair} (g : Searching p best n s q) where
    pub row_more : {m r : Pair} → q < n → m ≡ merge_value vs nvp ps p q → r ≡ greater s m → Searching p best n r (q + 1)
    unfolding row_step
    row_more h e f = record { doing = doing_more g.doing h (f ∙ ap (greater s) e); past = omega (arith, g.past) }

    pub row_end : n ≤ q → s ≡ best_of_row vs nvp ps p best
    row_end h = doing_end g.doing h

    pub row_end_none : n ≤ q → best ≡ no_pair → s ≡ row_of vs nvp ps p
    unfolding row_of
    row_end_none h e = row_end h ∙ ap (best_of_row vs nvp ps p) e

  -- row after row, from the best pair so far
  pub pairs_begin : (n : ℕ) {s : Pair} → length ps ≡ n → s ≡ no_pair → Doing (best_of_row vs nvp ps) (best_pair vs nvp ps) n s 0
  unfolding best_pair
  pairs_begin n e f = record { same = rw (← e, f) refl }

  -- and the rows that are kept, against the best so far
  pub rows_begin : (n : ℕ) {s : Pair} → length ps ≡ n → s ≡ no_pair → Doing (row_against vs nvp ps) (best_pair vs nvp ps) n s 0
  rows_begin n e f = record { same = best_rows vs nvp ps ∙ rw (← e, f) refl }
