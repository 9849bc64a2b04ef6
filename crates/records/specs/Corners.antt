-- The corners of a polygon, read where it stands in the work buffer. Assumes nothing.
use Rattle.std.specs.Prelude.{◌≡◌, List, ℕ, ◌+◌, ◌*◌, ◌≤◌, ◌<◌, length, get_or}
use Rattle.std.proofs.Math.Path.{refl, ap}
use Rattle.std.proofs.Common.{sym, ◌∙◌, arith, le_refl}
use Rattle.mem.specs.Slice.{view, length_view, get_or_view}
use Rattle.mem.specs.Loops.{block_fits}
use Rattle.rules.specs.Lists.{next}
use Rattle.rules.specs.Mesh.{Polygon, polygon_at, side_end}
use Rattle.laws.proofs.Ring.{next_below}
use Rattle.laws.specs.Lists.{All}
use Rattle.laws.proofs.Lists.{all_at}
use Rattle.laws.specs.Merge.{Below}
use Rattle.records.specs.Layout.{polygon_size, most_corners, polygons_at, Small}
use Rattle.records.specs.Values.{corners_from, Stands, CornerOf}
use Rattle.records.specs.Polygons.{in_view, polygon_at_lem, count_small}

module _ {w : List ℕ} {at : ℕ} (s : Stands w at) where
  pub from_view : corners_from w at ≡ view w (at + 3) (get_or w at 0)
  unfolding corners_from
  from_view = ap (λ (p : Polygon). p.corners) (in_view w at s.fits (get_or w at 0) (get_or w (at + 1) 0) (get_or w (at + 2) 0) refl s.most refl refl)

  pub length_from : get_or w at 0 ≡ length (corners_from w at)
  length_from = sym (ap length from_view ∙ length_view w (at + 3) (get_or w at 0) (omega (arith, s.fits, s.most)))

  pub few_from : length (corners_from w at) ≤ most_corners
  few_from = omega (arith, length_from, s.most)

module _ {w : List ℕ} {at i : ℕ} (c : CornerOf w at i) where
  pub from_is : get_or w (at + 3 + i) 0 ≡ get_or (corners_from w at) i 0
  from_is =
      sym (ap (λ (l : List ℕ). get_or l i 0) (from_view c.stands)
      ∙ get_or_view w (at + 3) (get_or w at 0) i 0 (omega (arith, c.below, length_from c.stands)))

  -- its word lies within the buffer
  pub from_fits : at + 3 + i < length w
  from_fits = omega (arith, c.below, length_from c.stands, c.stands.fits, c.stands.most)

  -- the corner after it
  pub from_next : (n k : ℕ) → n ≡ length (corners_from w at) → k ≡ next i n → CornerOf w at k
  from_next n k f e = record { stands = c.stands; below = rw (e, f) (next_below i (length (corners_from w at)) (omega (arith, c.below))) }

  pub end_is : (n k : ℕ) {r : ℕ} → n ≡ length (corners_from w at) → k ≡ next i n → r ≡ get_or (corners_from w at) k 0 → r ≡ side_end (corners_from w at) i
  end_is n k f e g = g ∙ rw (e, f)

  -- it is one of nv vertices where all are
  pub from_below : {nv r : ℕ} → All (Below nv) (corners_from w at) → r ≡ get_or (corners_from w at) i 0 → r < nv
  from_below h e = rw e (all_at h i 0 c.below)

-- polygon i of the np at o
module _ (w : List ℕ) (o np i : ℕ) (fits : o + np * polygon_size ≤ length w) (h : i < np) where
  pub stands_at : Small (polygon_at (polygons_at w o np) i) → Stands w (o + i * polygon_size)
  stands_at s =
      let f : o + i * polygon_size + polygon_size ≤ length w = omega (arith, block_fits i np polygon_size (np * polygon_size) h (le_refl _)) in
      record { fits = f; most = count_small w (o + i * polygon_size) f (rw (polygon_at_lem w o np i h) at s) }

  pub corners_at_lem : corners_from w (o + i * polygon_size) ≡ (polygon_at (polygons_at w o np) i).corners
  unfolding corners_from
  corners_at_lem = ap (λ (p : Polygon). p.corners) (sym (polygon_at_lem w o np i h))
