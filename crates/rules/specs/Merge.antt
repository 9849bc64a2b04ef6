-- R4: polygons of one contour or one hole are merged. Definitions only.
use Rattle.std.specs.Prelude.{Bool, true, false, ◌&&◌, ◌||◌, cond, List, ◌++◌, ℕ, zero, suc, ◌+◌, ◌-◌, eqb, leb, ltb, length, set, Option, Some, None}
use Rattle.mem.specs.Loops.{over, each}
use Rattle.mem.specs.Tab.{tab}
use Rattle.rules.specs.Lists.{down, swap_remove}
use Rattle.rules.specs.Plane.{is_left, squared}
use Rattle.rules.specs.Mesh.{Polygon, no_polygon, polygon_at, side_start, side_end, corner_round, place_of}
use Rattle.rules.specs.declared.Vertex.{Vertex}
use Rattle.rules.specs.declared.Pair.{Pair}

-- ---- the shared side of two polygons, lists of corners a and b

-- side i of a and side j of b run the same way
unfoldable pub is_along : List ℕ → List ℕ → ℕ → ℕ → Bool
is_along a b i j = eqb (side_start a i) (side_start b j) && eqb (side_end a i) (side_end b j)

-- they "run in opposite directions"
unfoldable pub is_opposite : List ℕ → List ℕ → ℕ → ℕ → Bool
is_opposite a b i j = eqb (side_start a i) (side_end b j) && eqb (side_end a i) (side_start b j)

-- they are "equal": the same two vertices, either way round
unfoldable pub is_equal : List ℕ → List ℕ → ℕ → ℕ → Bool
is_equal a b i j = is_along a b i j || is_opposite a b i j

unfoldable pub sides_at : List ℕ → List ℕ → ℕ → ℕ → Option (ℕ × ℕ)
sides_at a b i j = cond (is_equal a b i j) (Some (i, j)) None

unfoldable pub or_sides : Option (ℕ × ℕ) → Option (ℕ × ℕ) → Option (ℕ × ℕ)
or_sides (Some (i, j)) s = Some (i, j)
or_sides None s = s

-- side i of a, and "the first such in b"
unfoldable pub shared_by : List ℕ → List ℕ → ℕ → Option (ℕ × ℕ)
shared_by a b i = over None or_sides (sides_at a b i) 0 (length b)

-- "the shared side is the last of a with an equal one in b, the first such in b"
unfoldable pub shared_side : List ℕ → List ℕ → Option (ℕ × ℕ)
shared_side a b = down None or_sides (shared_by a b) (length a)

-- ---- the value of a pair

-- "Polygons a, b with na + nb − 2 ≤ nvp"
unfoldable pub fits : ℕ → List ℕ → List ℕ → Bool
fits nvp a b = leb (length a + length b - 2) nvp

-- side i of a and side j of b are opposite. Where they are joined at the start of side i, the corner before it is a's, and the next one is what follows
-- the end of side j in b: this corner turns left
unfoldable pub turns_left : List Vertex → List ℕ → List ℕ → ℕ → ℕ → Bool
turns_left vs a b i j =
    is_left (place_of vs (corner_round a (i + length a - 1))) (place_of vs (side_start a i)) (place_of vs (corner_round b (j + 2)))

-- "If these two don't run in opposite directions, the pair isn't merged. Both joined corners must turn left."
unfoldable pub may_join : List Vertex → List ℕ → List ℕ → ℕ → ℕ → Bool
may_join vs a b i j = is_opposite a b i j && (turns_left vs a b i j && turns_left vs b a j i)

abbrev pub no_pair : Pair
no_pair = record { length = 0; a = 0; b = 0; ea = 0; eb = 0 }

-- polygons p and q at the sides that they share, with the squared length of side i of p; none where they may not be joined
unfoldable pub pair_at : List Vertex → List Polygon → ℕ → ℕ → Option (ℕ × ℕ) → Pair
pair_at vs ps p q None = no_pair
pair_at vs ps p q (Some (i, j)) =
    let a = (polygon_at ps p).corners in
    let b = (polygon_at ps q).corners in
    cond (may_join vs a b i j)
    (record { length = squared (place_of vs (side_start a i)) (place_of vs (side_end a i)); a = p; b = q; ea = i; eb = j })
    no_pair

-- Rust's `get_poly_merge_value`
unfoldable pub merge_value : List Vertex → ℕ → List Polygon → ℕ → ℕ → Pair
merge_value vs nvp ps p q =
    let a = (polygon_at ps p).corners in
    let b = (polygon_at ps q).corners in
    elim (fits nvp a b) [ true ↦ pair_at vs ps p q (shared_side a b) | false ↦ no_pair ]

-- "Greatest squared length first, above 0, first pair on ties.": the best so far against one more
unfoldable pub greater : Pair → Pair → Pair
greater best m = cond (ltb best.length m.length) m best

-- polygon p with each q after it
unfoldable pub best_of_row : List Vertex → ℕ → List Polygon → ℕ → Pair → Pair
best_of_row vs nvp ps p best = each (λ q s. greater s (merge_value vs nvp ps p q)) (p + 1) (length ps) best

-- each p, from 0 up; a length of 0 says that no pair is left
unfoldable pub best_pair : List Vertex → ℕ → List Polygon → Pair
best_pair vs nvp ps = each (best_of_row vs nvp ps) 0 (length ps) no_pair

-- ---- the join

-- the corners of cs from past side e on, round to its start
unfoldable pub past_side : List ℕ → ℕ → List ℕ
past_side cs e = tab (λ k. corner_round cs (e + 1 + k)) (length cs - 1)

-- "The join is a from past the side, then b from past it"; of R5, "a merge keeps a's code and region, but unlike regions give 0" (in a contour all are alike)
unfoldable pub joined : Polygon → Polygon → ℕ → ℕ → Polygon
joined p q ea eb = record {
  corners = past_side p.corners ea ++ past_side q.corners eb;
  region = cond (eqb p.region q.region) p.region 0;
  code = p.code;
}

-- "in a's place; the last polygon moves to b's"
unfoldable pub join_pair : List Polygon → Pair → List Polygon
join_pair ps m = swap_remove no_polygon (set ps m.a (joined (polygon_at ps m.a) (polygon_at ps m.b) m.ea m.eb)) m.b

-- again and again until no pair is left. Each join takes one polygon away, so that f joins are enough for f polygons (`Fuel`)
unfoldable pub merge_loop : ℕ → List Vertex → ℕ → List Polygon → List Polygon
merge_loop zero vs nvp ps = ps
merge_loop (suc f) vs nvp ps =
    let m = best_pair vs nvp ps in
    elim (ltb 0 m.length) [
      | true ↦ merge_loop f vs nvp (join_pair ps m)
      | false ↦ ps
    ]

-- "Only if nvp > 3, within a contour or a hole.": ps are the triangles of one of these
unfoldable pub merge_all : List Vertex → ℕ → List Polygon → List Polygon
merge_all vs nvp ps = elim (ltb 3 nvp) [ true ↦ merge_loop (length ps) vs nvp ps | false ↦ ps ]
