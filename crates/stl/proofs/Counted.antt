-- The facets of the polygons in a buffer are counted: what is counted and the facets of the polygons that are left are all. Assumes nothing.
use mathlib.Core.Path.{◌≡◌, ap, ◌∙◌}
use mathlib.Core.List.{List}
use mathlib.Core.Logic.{⊎_elim}
use Prim.Native.Nat.{ℕ, ◌+◌, ◌-◌, ◌*◌, ◌≤◌, ◌<◌}
use native.Mathlib.Omega.{arith}
use lib.ListN.{length, get_or-eq_default}
use Rattle.mem.specs.Cases.{lt_or_le}
use Rattle.mem.specs.Loops.{over, over_turn, over_end, over_cong}
use Rattle.rules.specs.Mesh.{Polygon, no_polygon, polygon_at}
use Rattle.rules.specs.Stl.{facet_count}
use Rattle.laws.proofs.Stl.{count_fits}
use Rattle.stl.specs.Steps.{polygons_in, CountReady}
use Rattle.stl.proofs.Fanning.{row_at, polygons_long, row_is, row_few}

module _ (nvp np : ℕ) (ps : List ℕ) where
  -- the facets of polygon i
  abbrev row_count : ℕ → ℕ
  row_count i = length (row_at nvp ps i) - 2

  count_over : facet_count (polygons_in nvp np ps) ≡ over 0 ◌+◌ row_count 0 np
  unfolding facet_count
  count_over =
      let f : ℕ → ℕ = λ i. length (polygon_at (polygons_in nvp np ps) i).corners - 2 in
      ap (over 0 ◌+◌ f 0) (polygons_long nvp np ps)
      ∙ over_cong 0 ◌+◌ f row_count 0 np (λ i a h. ap (λ (l : List ℕ). length l - 2) (row_is nvp np ps i h))

  -- n facets of the first i polygons
  pub record Counted (n i : ℕ) : Type 0 where
    pub within : i ≤ np
    pub few : n ≤ i * 10
    pub same : facet_count (polygons_in nvp np ps) ≡ n + over 0 ◌+◌ row_count i np

  pub counted_none : Counted 0 0
  counted_none = record { within = omega arith; few = omega arith; same = omega (arith, count_over) }

  module _ {n i : ℕ} (r : Counted n i) where
    -- c are the corners of polygon i
    pub counted_more : {c : ℕ} → CountReady nvp np ps → i < np → c ≡ length (row_at nvp ps i) → Counted (n + (c - 2)) (i + 1)
    counted_more {c} g h e = record {
      within = omega arith;
      few = omega (arith, r.few, row_few nvp np ps g i h);
      same = omega (arith, r.same, over_turn 0 ◌+◌ row_count i np h);
    }

    pub counted_all : np ≤ i → n ≡ facet_count (polygons_in nvp np ps)
    counted_all h = omega (arith, r.same, over_end 0 ◌+◌ row_count i np h)

  -- they are few
  twelve : CountReady nvp np ps → (i : ℕ) → length (polygon_at (polygons_in nvp np ps) i).corners ≤ 12
  twelve g i = ⊎_elim
      (λ (h : i < np). rw (row_is nvp np ps i h) (row_few nvp np ps g i h))
      (λ (h : np ≤ i).
      let past : length (polygons_in nvp np ps) ≤ i = rw (polygons_long nvp np ps) h in
      rw (ap (λ (p : Polygon). length p.corners) (get_or-eq_default (polygons_in nvp np ps) no_polygon past)) (omega arith))
      (lt_or_le i np)

  pub count_small : CountReady nvp np ps → facet_count (polygons_in nvp np ps) ≤ 655350
  count_small g = count_fits (polygons_in nvp np ps) (rw (polygons_long nvp np ps) g.few) (twelve g)
