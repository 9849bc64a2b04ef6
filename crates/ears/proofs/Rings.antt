-- A ring of points: the point at a place of it, and that index words stay good as they are marked, cut and counted up. Assumes nothing.
use mathlib.Core.Path.{◌≡◌, ◌∙◌}
use mathlib.Core.List.{List, map}
use Prim.Native.Nat.{ℕ, ◌+◌, ◌*◌, ◌/◌, ◌^◌, ◌≤◌, ◌<◌}
use native.Mathlib.Omega.{arith}
use lib.ListN.{length, get_or, length-map, length-set}
use Rattle.mem.specs.Tab.{length_tab, get_or_tab}
use Rattle.rules.specs.declared.Point.{Point}
use Rattle.rules.specs.Lists.{next, without}
use Rattle.rules.specs.Plane.{origin, InGrid}
use Rattle.rules.specs.Ears.{index_of, indices, point_at, remark, remark_gap, cut_ear, mark_all}
use Rattle.laws.specs.Lists.{All}
use Rattle.laws.proofs.Lists.{all_at, all_of_lem, all_without, map_without, get_or_map_in}
use Rattle.laws.proofs.Ears.{remark_index, mark_index, cut_index}
use Rattle.laws.proofs.Unmarked.{index_small}
use Rattle.plane.specs.Points.{point_of, points_in, GridWords}
use Rattle.ears.specs.Ring.{Ring, Ends}

-- ---- the place before one
-- ---- the point at a place

pub length_points : (pts : List ℕ) → length (points_in pts) ≡ length pts / 2
unfolding points_in
length_points pts = length_tab (point_of pts) (length pts / 2)

module _ {pts ix : List ℕ} (r : Ring pts ix) (k : ℕ) (h : k < length ix) where
  pub corner_is : point_at (points_in pts) ix k ≡ point_of pts (index_of (get_or ix k 0))
  unfolding point_at points_in
  corner_is = get_or_tab (point_of pts) (length pts / 2) (index_of (get_or ix k 0)) origin (r.valid k h)

  pub corner_grid : InGrid (point_at (points_in pts) ix k)
  unfolding point_of
  corner_grid = rw corner_is (record { x_small = r.grid.small _; z_small = r.grid.small _ })

  -- both words of that point
  pub corner_room : index_of (get_or ix k 0) * 2 + 1 < length pts
  corner_room = let v = r.valid k h in omega arith

-- ---- the ends of a diagonal
module _ {pts ix : List ℕ} {i j : ℕ} {a b : Point} (r : Ring pts ix) (e : Ends pts ix i j a b) where
  pub first_grid : InGrid a
  first_grid = rw e.is_a (corner_grid r i e.i_in)

  pub second_grid : InGrid b
  second_grid = rw e.is_b (corner_grid r j e.j_in)

-- ---- words that name the same points, or some of them

named : {pts ix : List ℕ} → Ring pts ix → All (λ j. j < length pts / 2) (map index_of ix)
named {ix} r = all_of_lem (map index_of ix) 0
    (λ i h. let k : i < length ix = rw (length-map ix index_of) at h in rw (get_or_map_in index_of ix i 0 0 k) (r.valid i k))

ring_of : {pts ix : List ℕ} → GridWords pts → All (λ j. j < length pts / 2) (map index_of ix) → Ring pts ix
ring_of {ix} g a = record {
  grid = g;
  valid = λ k h. rw (get_or_map_in index_of ix k 0 0 h) at (all_at a k 0 (rw (length-map ix index_of) h));
}

ring_same : {pts ix iy : List ℕ} → map index_of iy ≡ map index_of ix → Ring pts ix → Ring pts iy
ring_same e r = ring_of r.grid (rw e (named r))

pub ring_remark : {pts ix : List ℕ} (ps : List Point) (i j k : ℕ) → Ring pts ix → Ring pts (remark ps i j k ix)
ring_remark {ix} ps i j k r = ring_same (remark_index ps i j k ix) r

pub ring_marked : {pts ix : List ℕ} (ps : List Point) → Ring pts ix → Ring pts (mark_all ps ix)
ring_marked {ix} ps r = ring_same (mark_index ps ix) r

pub ring_without : {pts ix : List ℕ} (k : ℕ) → Ring pts ix → Ring pts (without ix k)
ring_without {ix} k r = ring_of r.grid (rw (map_without index_of ix k) (all_without (map index_of ix) k (named r)))

pub ring_cut : {pts ix : List ℕ} (ps : List Point) (i : ℕ) → Ring pts ix → Ring pts (cut_ear ps i ix)
ring_cut {ix} ps i r = ring_of r.grid (rw (cut_index ps i ix) (all_without (map index_of ix) (next i (length ix)) (named r)))

-- 0, 1, .., n - 1, where there are n points
pub ring_indices : {pts : List ℕ} (n : ℕ) → GridWords pts → n < 2 ^ 28 → n ≤ length pts / 2 → Ring pts (indices n)
unfolding indices
ring_indices n g f h = record {
  grid = g;
  valid = λ k a.
      let b : k < n = rw (length_tab (λ j. j) n) at a in
      rw (get_or_tab (λ j. j) n k 0 b, index_small k (omega arith)) (omega arith);
}

-- ---- how many they are
pub length_remark : (ps : List Point) (i j k : ℕ) (ws : List ℕ) → length (remark ps i j k ws) ≡ length ws
unfolding remark
length_remark ps i j k ws = length-set ws k _

pub length_gap : (ps : List Point) (i j : ℕ) (ws : List ℕ) → length (remark_gap ps i j ws) ≡ length ws
unfolding remark_gap
length_gap ps i j ws = length_remark ps i _ j _ ∙ length_remark ps _ j i ws
