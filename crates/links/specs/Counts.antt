-- There are never more records than the polygons have corners. Assumes nothing.
-- Key: `edges_few`; `corners_most`: how many corners they can have.
use Rattle.std.specs.Prelude.{◌≡◌, ltb, drop, get_or, Option, Some, None}
use Rattle.std.proofs.Math.Path.{refl}
use mathlib.Core.List.{List, [], ◌∷◌}
use Prim.Native.Nat.{ℕ, zero, suc, ◌+◌, ◌*◌, ◌≤◌, ◌<◌}
use native.Mathlib.Omega.{arith}
use Rattle.std.proofs.Math.ListN.{length, length-append, length-set}
use Rattle.ints.specs.Bools.{cond_ind}
use Rattle.mem.specs.Loops.{each, each_at, each_kept}
use Rattle.rules.specs.Mesh.{Polygon, no_polygon, polygon_at, side_start, side_end}
use Rattle.rules.specs.Links.{no_edge, each_side, record_side, newest, joined_to, join_at, join_side, edges_of}
use Rattle.rules.specs.declared.Edge.{Edge}
use Rattle.laws.specs.Lists.{All, none, more, total}
use Rattle.laws.proofs.Lists.{all_at}
use Rattle.laws.specs.Measures.{spares_in}
use Rattle.laws.specs.Merge.{Long}
use Rattle.records.specs.Layout.{most_corners, Small}
use Rattle.links.specs.Ready.{corners_in}

-- the corners of polygon i, and those of the polygons after it
pub corners_left : (ps : List Polygon) (i : ℕ) → i < length ps → corners_in (drop i ps) ≡ length (polygon_at ps i).corners + corners_in (drop (i + 1) ps)
unfolding corners_in total
corners_left [] i h = absurd (omega arith)
corners_left (p ∷ ps) zero h = refl
corners_left (p ∷ ps) (suc i) h = let e : suc i + 1 ≡ suc (i + 1) = omega arith in rw e (corners_left ps i (omega arith))

corners_up_to : (ps : List Polygon) → ((i : ℕ) → i < length ps → Small (polygon_at ps i)) → corners_in ps ≤ length ps * most_corners
unfolding corners_in total
corners_up_to [] h = omega arith
corners_up_to (p ∷ ps) h = omega (arith, h 0 (omega arith), corners_up_to ps (λ i l. h (suc i) (omega arith)))

pub corners_most : (ps : List Polygon) → All Small ps → corners_in ps ≤ length ps * most_corners
corners_most ps h = corners_up_to ps (λ i l. all_at h i no_polygon l)

-- each polygon has two corners besides those beyond two
pub corners_spares : {ps : List Polygon} → All Long ps → corners_in ps ≡ spares_in ps + 2 * length ps
unfolding corners_in total
corners_spares none = omega arith
corners_spares (more h a) = omega (arith, h, corners_spares a)

module _ (ps : List Polygon) where
  one_more : (i j : ℕ) (es : List Edge) → length (record_side ps i j es) ≤ length es + 1
  unfolding record_side
  one_more i j es =
      let a = side_start (polygon_at ps i).corners j in
      let b = side_end (polygon_at ps i).corners j in
      cond_ind (λ (fs : List Edge). length fs ≤ length es + 1) (ltb a b)
      (omega (arith, length-append es (record { low = a; high = b; poly = i; side = j; other = i; at = 0 } ∷ []))) (omega arith)

  pub recorded_few : (es : List Edge) → length (each_side ps (record_side ps) es) ≤ length es + corners_in ps
  unfolding each_side
  recorded_few es =
      let n = length ps in
      let f : length (each_side ps (record_side ps) es) + corners_in (drop n ps) ≤ length es + corners_in ps =
      each_at _ (λ i s. length s + corners_in (drop i ps) ≤ length es + corners_in ps) n
      (λ i s h q.
      let m = length (polygon_at ps i).corners in
      let g : length (each (record_side ps i) 0 m s) ≤ length s + m =
      each_at (record_side ps i) (λ j u. length u ≤ length s + j) m (λ j u a b. omega (arith, one_more i j u)) s (omega arith) in
      let e : i + 1 ≡ suc i = omega arith in
      omega (arith, rw e at (corners_left ps i h))) es (omega arith) in
      omega arith

  at_length : (i j : ℕ) (es : List Edge) (f : Option ℕ) → length (join_at i j es f) ≡ length es
  unfolding join_at
  at_length i j es (Some k) = length-set es k (joined_to i j (get_or es k no_edge))
  at_length i j es None = refl

  join_length : (i j : ℕ) (es : List Edge) → length (join_side ps i j es) ≡ length es
  unfolding join_side
  join_length i j es =
      let a = side_start (polygon_at ps i).corners j in
      let b = side_end (polygon_at ps i).corners j in
      cond_ind (λ (fs : List Edge). length fs ≡ length es) (ltb b a) (at_length i j es (newest b a es)) refl

  pub joined_length : (es : List Edge) → length (each_side ps (join_side ps) es) ≡ length es
  unfolding each_side
  joined_length es = each_kept _ length (λ i s. each_kept (join_side ps i) length (join_length i) 0 (length (polygon_at ps i).corners) s) 0 (length ps) es

  pub edges_few : length (edges_of ps) ≤ corners_in ps
  unfolding edges_of
  edges_few = omega (arith, joined_length (each_side ps (record_side ps) []), recorded_few [])
