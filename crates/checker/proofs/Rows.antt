-- 41: the words of a polygon, each way out of their test; and the words past its last corner, which are tested in a row that is lent. Assumes nothing.
use Rattle.std.specs.Prelude.{None}
use Rattle.std.specs.List.{list_all}
use mathlib.Core.Path.{◌≡◌, refl, ap}
use mathlib.Core.Bool.{Bool, true, false, not, ◌&&◌}
use mathlib.Core.List.{List}
use Prim.Native.Nat.{ℕ, ◌+◌, ◌-◌, ◌*◌, ◌≤◌, ◌<◌}
use native.Mathlib.Omega.{arith}
use lib.Dec.{eqb, ltb}
use lib.ListN.{length, get_or}
use borrow.Author.Tests.{le-leb, lt-leb}
use Rattle.mem.specs.Slice.{view, length_view, get_or_view}
use Rattle.mem.specs.Loops.{over_cong, block_fits}
use Rattle.rules.specs.Lists.{when, or_else}
use Rattle.rules.specs.Links.{none}
use Rattle.rules.specs.Exits.{up_to_none}
use Rattle.rules.specs.Handed.{Handed, vertex_count, polygon_count, corner_word, all_of, first_fault, corners_hold}
use Rattle.laws.proofs.HandedWords.{up_to_few, corners_read}
use Rattle.checker.proofs.Looking.{all_from}
use Rattle.checker.specs.Steps.{row_at, unused_from, row_holds}

-- ---- each way out, where c is the count of the row's corners

module _ (nv : ℕ) (row : List ℕ) (c : ℕ) (q : c ≡ length (up_to_none row)) where
  pub too_few : c < 3 → false ≡ row_holds nv row
  unfolding row_holds
  too_few h = rw (← q, lt-leb 3 c h) refl

  module _ (h : 3 ≤ c) where
    pub not_vertices : all_of (λ k. ltb (get_or row k 0) nv) 0 c ≡ false → false ≡ row_holds nv row
    unfolding row_holds
    not_vertices e = rw (← q, le-leb 3 c h, e) refl

    pub rest_decides : all_of (λ k. ltb (get_or row k 0) nv) 0 c ≡ true → unused_from row c ≡ row_holds nv row
    unfolding row_holds
    rest_decides e = rw (← q, le-leb 3 c h, e) refl

-- ---- the words past the last corner

pub unused_all : (ws : List ℕ) (a : ℕ) → a ≤ length ws → list_all (λ w. eqb w none) (view ws a (length ws - a)) ≡ unused_from ws a
unfolding unused_from
unused_all ws a h = all_from (λ w. eqb w none) ws a h

-- ---- a row that is lent is tested as the buffer's words

pub unused_is : (ws : List ℕ) (from n a : ℕ) → from + n ≤ length ws → unused_from (view ws from n) a ≡ all_of (λ k. eqb (get_or ws (from + k) 0) none) a n
unfolding unused_from all_of
unused_is ws from n a h =
    rw (length_view ws from n h)
    (over_cong true ◌&&◌ (λ k. eqb (get_or (view ws from n) k 0) none) (λ k. eqb (get_or ws (from + k) 0) none) a n
    (λ k b l. ap (λ (w : ℕ). eqb w none) (get_or_view ws from n k 0 l)))

module _ (m : Handed) (fits : polygon_count m * m.nvp ≤ length m.polygons) where
  row_is : (i : ℕ) → i < polygon_count m → row_holds (vertex_count m) (row_at m.nvp m.polygons i) ≡ corners_hold m i
  unfolding row_holds corners_hold corner_word all_of
  row_is i h =
      let row = row_at m.nvp m.polygons i in
      let end = block_fits i (polygon_count m) m.nvp (length m.polygons) h fits in
      let below : all_of (λ k. ltb (get_or row k 0) (vertex_count m)) 0 (length (up_to_none row))
      ≡ all_of (λ k. ltb (corner_word m i k) (vertex_count m)) 0 (length (up_to_none row)) =
      over_cong true ◌&&◌ (λ k. ltb (get_or row k 0) (vertex_count m)) (λ k. ltb (corner_word m i k) (vertex_count m)) 0 (length (up_to_none row))
      (λ k b l. ap (λ (w : ℕ). ltb w (vertex_count m))
      (get_or_view m.polygons (i * m.nvp) m.nvp k 0 (omega (arith, l, up_to_few row, length_view m.polygons (i * m.nvp) m.nvp end)))) in
      rw (corners_read m i h, below, unused_is m.polygons (i * m.nvp) m.nvp (length (up_to_none row)) end) refl

  -- so that the first polygon whose words are at fault is the rules'
  pub first_row : first_fault (λ i. row_holds (vertex_count m) (row_at m.nvp m.polygons i)) (polygon_count m) ≡ first_fault (corners_hold m) (polygon_count m)
  unfolding first_fault
  first_row =
      over_cong None or_else (λ i. when (not (row_holds (vertex_count m) (row_at m.nvp m.polygons i))) i) (λ i. when (not (corners_hold m i)) i)
      0 (polygon_count m)
      (λ i a h. ap (λ (t : Bool). when (not t) i) (row_is i h))
