-- What the functions of the merge ask for, and what the merge leaves. Definitions only.
use Rattle.std.specs.Prelude.{◌≡◌, cond, List, ◌++◌, ℕ, ◌+◌, ◌-◌, ◌*◌, ◌≤◌, length, replicate}
use Rattle.mem.specs.Slice.{splice}
use Rattle.mem.specs.Packed.{Every}
use Rattle.rules.specs.Plane.{squared}
use Rattle.rules.specs.Mesh.{no_polygon, side_start, side_end, place_of}
use Rattle.rules.specs.Merge.{may_join, no_pair, merge_all}
use Rattle.rules.specs.declared.Vertex.{Vertex}
use Rattle.rules.specs.declared.Pair.{Pair}
use Rattle.laws.specs.Lists.{All}
use Rattle.laws.specs.Merge.{Good, Below, Joinable}
use Rattle.records.specs.Layout.{vertex_size, polygon_size, most_corners, vertices_at, polygons_at, polygon_records, Small, Tidy, Placed}
use Rattle.records.specs.Values.{corners_from, CornerOf}

-- nv vertices stand at vo, and np polygons at o, behind them: each of 3 corners or more, at most nvp, and each corner one of the vertices
pub record Ready (w : List ℕ) (vo nv o np nvp : ℕ) : Type 0 where
  pub placed : Placed w vo nv
  pub behind : vo + nv * vertex_size ≤ o
  pub fits : o + np * polygon_size ≤ length w
  pub most : nvp ≤ most_corners
  pub good : All (Good (Below nv) nvp) (polygons_at w o np)

-- the same, with nothing but those polygons in the records
pub record MergeReady (w : List ℕ) (vo nv o np nvp : ℕ) : Type 0 where
  pub ready : Ready w vo nv o np nvp
  pub tidy : Tidy w o np

-- side i of the polygon at `at` and side j of the one at `bt`, whose corners are among the nv vertices at vo
pub record Joint (w : List ℕ) (vo nv at bt i j : ℕ) : Type 0 where
  pub placed : Placed w vo nv
  pub a_in : All (Below nv) (corners_from w at)
  pub b_in : All (Below nv) (corners_from w bt)
  pub a_on : CornerOf w at i
  pub b_on : CornerOf w bt j

-- polygons p and q, with the corners a and b, at side i of a and side j of b: `pair_at` of the rules, for corners in hand
unfoldable pub pair_of : List Vertex → List ℕ → List ℕ → ℕ → ℕ → ℕ → ℕ → Pair
pair_of vs a b p q i j =
    cond (may_join vs a b i j)
    (record { length = squared (place_of vs (side_start a i)) (place_of vs (side_end a i)); a = p; b = q; ea = i; eb = j })
    no_pair

-- m is a pair of the np polygons at o that can be joined
pub record JoinReady (w : List ℕ) (o np nvp : ℕ) (m : Pair) : Type 0 where
  pub fits : o + np * polygon_size ≤ length w
  pub tidy : Tidy w o np
  pub small : Every Small no_polygon (polygons_at w o np)
  pub joinable : Joinable nvp (polygons_at w o np) m
  pub most : nvp ≤ most_corners

-- R4 was done on the np polygons at o: r are left, with blank ones in the place of those that went, and every other word is as it was.
-- `count` and `is` fix all; the others follow from them, and spare the callers the way there
pub record MergedTo (w v : List ℕ) (vo nv o np nvp r : ℕ) : Type 0 where
  pub count : r ≡ length (merge_all (vertices_at w vo nv) nvp (polygons_at w o np))
  pub is : v ≡ splice w o (polygon_records (merge_all (vertices_at w vo nv) nvp (polygons_at w o np) ++ replicate (np - r) no_polygon))
  pub fewer : r ≤ np
  pub polygons : polygons_at v o r ≡ merge_all (vertices_at w vo nv) nvp (polygons_at w o np)
  pub good : All (Good (Below nv) nvp) (merge_all (vertices_at w vo nv) nvp (polygons_at w o np))
  pub tidy : Tidy v o r
