-- The value of a pair: what the functions find of two polygons in the buffer is what R4 says of their corners. Assumes nothing.
use Rattle.std.specs.Prelude.{Some, None}
use mathlib.Core.Path.{◌≡◌, ap, ◌∙◌}
use mathlib.Core.Bool.{Bool, true, false, ◌&&◌}
use mathlib.Core.List.{List}
use Prim.Native.Nat.{ℕ, ◌+◌, ◌-◌, ◌*◌, ◌%◌, ◌≤◌, ◌<◌}
use native.Mathlib.Omega.{arith}
use native.Mathlib.Nat.{mod-lt}
use borrow.Author.Tests.{le-leb, lt-leb}
use lib.ListN.{length, get_or}
use Rattle.rules.specs.Plane.{is_left, squared}
use Rattle.rules.specs.Mesh.{Polygon, no_polygon, polygon_at, side_start, side_end, place_of}
use Rattle.rules.specs.Merge.{is_opposite, shared_side, fits, turns_left, may_join, no_pair, pair_at, merge_value}
use Rattle.rules.specs.declared.Point.{Point}
use Rattle.rules.specs.declared.Vertex.{Vertex}
use Rattle.rules.specs.declared.Pair.{Pair}
use Rattle.laws.proofs.Lists.{all_at}
use Rattle.laws.specs.Merge.{Good, Below}
use Rattle.laws.proofs.Shared.{shared_at}
use Rattle.records.specs.Layout.{polygon_size, most_corners, vertices_at, polygons_at}
use Rattle.records.specs.Values.{corners_from, Stands, CornerOf}
use Rattle.records.specs.Polygons.{length_polygons}
use Rattle.records.specs.Corners.{stands_at, corners_at_lem}
use Rattle.polys.specs.Ready.{Ready, Joint, pair_of}

-- ---- corners

-- a place counted round
pub round_on : {w : List ℕ} {at i : ℕ} (n k : ℕ) → CornerOf w at i → n ≡ length (corners_from w at) → CornerOf w at (k % n)
round_on n k c e = record { stands = c.stands; below = rw (← e) (mod-lt k (omega (arith, c.below))) }

-- the test on three places in hand
pub left_made : (vs : List Vertex) (a b : List ℕ) (i j : ℕ) {na nb : ℕ} {p q r : Point} → na ≡ length a → nb ≡ length b
    → p ≡ place_of vs (get_or a ((i + na - 1) % na) 0) → q ≡ place_of vs (get_or a i 0) → r ≡ place_of vs (get_or b ((j + 2) % nb) 0)
    → is_left p q r ≡ turns_left vs a b i j
unfolding turns_left
left_made vs a b i j ea eb ep eq er = rw (ep, eq, er, ea, eb)

-- the three tests of a join
pub may_made : (vs : List Vertex) (a b : List ℕ) (i j : ℕ) {t u v : Bool} → t ≡ is_opposite a b i j → u ≡ turns_left vs a b i j → v ≡ turns_left vs b a j i
    → (t && (u && v)) ≡ may_join vs a b i j
unfolding may_join
may_made vs a b i j et eu ev = rw (et, eu, ev)

-- ---- a pair at sides in hand

module _ (vs : List Vertex) (a b : List ℕ) (p q i j : ℕ) {t : Bool} (e : t ≡ may_join vs a b i j) where
  pub pair_made : {l : ℕ} → t ≡ true → l ≡ squared (place_of vs (side_start a i)) (place_of vs (side_end a i))
      → ◌≡◌ {A = Pair} (record { length = l; a = p; b = q; ea = i; eb = j }) (pair_of vs a b p q i j)
  unfolding pair_of
  pair_made h f = rw (← e, h, f)

  pub pair_not : {r : Pair} → t ≡ false → r ≡ no_pair → r ≡ pair_of vs a b p q i j
  unfolding pair_of
  pair_not h f = rw (← e, h, f)

-- ---- polygons in the buffer

module _ {w : List ℕ} {vo nv o np nvp : ℕ} (ready : Ready w vo nv o np nvp) where
  good_at : (i : ℕ) → i < np → Good (Below nv) nvp (polygon_at (polygons_at w o np) i)
  good_at i h = all_at ready.good i no_polygon (rw (length_polygons w o np) h)

  pub small_at : (i : ℕ) → i < np → length (polygon_at (polygons_at w o np) i).corners ≤ most_corners
  small_at i h = omega (arith, (good_at i h).short, ready.most)

  pub stands_in : (i : ℕ) → i < np → Stands w (o + i * polygon_size)
  stands_in i h = stands_at w o np i ready.fits h (small_at i h)

  pub corners_in_lem : (i : ℕ) → i < np → corners_from w (o + i * polygon_size) ≡ (polygon_at (polygons_at w o np) i).corners
  corners_in_lem i h = corners_at_lem w o np i ready.fits h

  pub joint_of : (a b i j : ℕ) → a < np → b < np
      → Some (i, j) ≡ shared_side (corners_from w (o + a * polygon_size)) (corners_from w (o + b * polygon_size)) → Joint w vo nv (o + a * polygon_size) (o + b * polygon_size) i j
  joint_of a b i j ha hb e =
      let h = shared_at (corners_from w (o + a * polygon_size)) (corners_from w (o + b * polygon_size)) i j e in
      record {
        placed = ready.placed;
        a_in = rw (corners_in_lem a ha) (good_at a ha).inside;
        b_in = rw (corners_in_lem b hb) (good_at b hb).inside;
        a_on = record { stands = stands_in a ha; below = h.0 };
        b_on = record { stands = stands_in b hb; below = h.1 };
      }

-- ---- the value of polygons a and b of ps

module _ (vs : List Vertex) (nvp : ℕ) (ps : List Polygon) (a b : ℕ) where
  value_sides : (i j : ℕ) → length (polygon_at ps a).corners + length (polygon_at ps b).corners ≤ nvp + 2
      → Some (i, j) ≡ shared_side (polygon_at ps a).corners (polygon_at ps b).corners
      → pair_of vs (polygon_at ps a).corners (polygon_at ps b).corners a b i j ≡ merge_value vs nvp ps a b
  unfolding merge_value fits pair_at pair_of
  value_sides i j h e = rw (merge_value, le-leb (length (polygon_at ps a).corners + length (polygon_at ps b).corners - 2) nvp (omega arith), ← e)

  value_none : length (polygon_at ps a).corners + length (polygon_at ps b).corners ≤ nvp + 2
      → None ≡ shared_side (polygon_at ps a).corners (polygon_at ps b).corners → no_pair ≡ merge_value vs nvp ps a b
  unfolding merge_value fits pair_at
  value_none h e = rw (merge_value, le-leb (length (polygon_at ps a).corners + length (polygon_at ps b).corners - 2) nvp (omega arith), ← e)

  value_big : nvp + 2 < length (polygon_at ps a).corners + length (polygon_at ps b).corners → no_pair ≡ merge_value vs nvp ps a b
  unfolding merge_value fits
  value_big h = rw (merge_value, lt-leb (length (polygon_at ps a).corners + length (polygon_at ps b).corners - 2) nvp (omega arith))

-- the same, of what was read in the buffer
module _ {w : List ℕ} {vo nv o np nvp : ℕ} (ready : Ready w vo nv o np nvp) (a b : ℕ) (ha : a < np) (hb : b < np) {m n : ℕ} {r : Pair}
    (em : m ≡ length (corners_from w (o + a * polygon_size))) (en : n ≡ length (corners_from w (o + b * polygon_size))) where
  pub value_at_sides : (i j : ℕ) → m + n ≤ nvp + 2 → Some (i, j) ≡ shared_side (corners_from w (o + a * polygon_size)) (corners_from w (o + b * polygon_size))
      → r ≡ pair_of (vertices_at w vo nv) (corners_from w (o + a * polygon_size)) (corners_from w (o + b * polygon_size)) a b i j
      → r ≡ merge_value (vertices_at w vo nv) nvp (polygons_at w o np) a b
  value_at_sides i j h e f =
      (rw (corners_in_lem ready a ha, corners_in_lem ready b hb) at f)
      ∙ value_sides _ nvp _ a b i j (omega (arith, ap length (corners_in_lem ready a ha), ap length (corners_in_lem ready b hb)))
      (rw (corners_in_lem ready a ha, corners_in_lem ready b hb) at e)

  pub value_at_none : m + n ≤ nvp + 2 → None ≡ shared_side (corners_from w (o + a * polygon_size)) (corners_from w (o + b * polygon_size)) → r ≡ no_pair
      → r ≡ merge_value (vertices_at w vo nv) nvp (polygons_at w o np) a b
  value_at_none h e f =
      f
      ∙ value_none _ nvp _ a b (omega (arith, ap length (corners_in_lem ready a ha), ap length (corners_in_lem ready b hb)))
      (rw (corners_in_lem ready a ha, corners_in_lem ready b hb) at e)

  pub value_too_big : nvp + 2 < m + n → r ≡ no_pair → r ≡ merge_value (vertices_at w vo nv) nvp (polygons_at w o np) a b
  value_too_big h f = f ∙ value_big _ nvp _ a b (omega (arith, ap length (corners_in_lem ready a ha), ap length (corners_in_lem ready b hb)))
