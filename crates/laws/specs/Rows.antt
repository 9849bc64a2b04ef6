-- Kept rows: R4's best pair, from the best pair of each polygon with one after it, and what a join leaves of these. Definitions only.
use Rattle.std.specs.Prelude.{◌≡◌, Bool, ◌&&◌, ◌||◌, ◌≢◌, List, ℕ, ◌+◌, ◌<◌, eqb, leb, ltb}
use Rattle.std.proofs.Math.ListN.{length}
use Rattle.rules.specs.Mesh.{Polygon, polygon_at}
use Rattle.rules.specs.Merge.{no_pair, merge_value, greater, best_of_row}
use Rattle.rules.specs.declared.Vertex.{Vertex}
use Rattle.rules.specs.declared.Pair.{Pair}

-- ---- what is kept, and what a join makes stale

-- the row of polygon p: the best pair of p with one after it, or none
unfoldable pub row_of : List Vertex → ℕ → List Polygon → ℕ → Pair
row_of vs nvp ps p = best_of_row vs nvp ps p no_pair

-- A join of a and b left n polygons: it is at a, and the last one, which had the number n, is at b. Row r, with the second polygon q, speaks of one of these
unfoldable pub is_moved : ℕ → ℕ → ℕ → ℕ → ℕ → Bool
is_moved r q a b n = (eqb r a || eqb r b) || (eqb q a || (eqb q b || eqb q n))

-- a pair that is as long as l, or longer: on a tie the row says which is first
unfoldable pub is_rival : ℕ → Pair → Bool
is_rival l m = ltb 0 m.length && leb l m.length

-- polygon q comes after r, and their pair is as long as l, or longer
unfoldable pub is_reached : List Vertex → ℕ → List Polygon → ℕ → ℕ → ℕ → Bool
is_reached vs nvp ps r q l = (ltb r q && ltb q (length ps)) && is_rival l (merge_value vs nvp ps r q)

-- row r, with the length l and the second polygon q, is stale: ps are the polygons that a join of a and b left
unfoldable pub is_stale : List Vertex → ℕ → List Polygon → ℕ → ℕ → ℕ → ℕ → ℕ → Bool
is_stale vs nvp ps a b r l q = is_moved r q a b (length ps) || (is_reached vs nvp ps r a l || is_reached vs nvp ps r b l)

-- the polygons qs are what a join of a and b leaves of ps, as far as rows can tell
pub record After (ps qs : List Polygon) (a b : ℕ) : Type 0 where
  pub size : length ps ≡ length qs + 1
  pub same : (q : ℕ) → q < length qs → q ≢ a → q ≢ b → polygon_at qs q ≡ polygon_at ps q

-- ---- the value of a pair

-- a pair with a length is of p and q
pub record Own (p q : ℕ) (m : Pair) : Type 0 where
  pub first : 0 < m.length → m.a ≡ p
  pub second : 0 < m.length → m.b ≡ q

-- the best so far, against row p
unfoldable pub row_against : List Vertex → ℕ → List Polygon → ℕ → Pair → Pair
row_against vs nvp ps p s = greater s (row_of vs nvp ps p)

-- ---- what a join leaves

-- a row that speaks of none that changed or moved
pub record Still (r q a b n : ℕ) : Type 0 where
  pub r_a : r ≢ a
  pub r_b : r ≢ b
  pub q_a : q ≢ a
  pub q_b : q ≢ b
  pub q_n : q ≢ n
