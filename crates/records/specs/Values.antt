-- Polygons by value, and what the functions on records ask for. Definitions only.
use Rattle.std.specs.Prelude.{◌≡◌, List, ◌∷◌, ◌++◌, ℕ, ◌+◌, ◌*◌, ◌≤◌, ◌<◌, length, take, get_or, replicate}
use Rattle.mem.specs.Slice.{view}
use Rattle.mem.specs.Packed.{Every}
use Rattle.rules.specs.Mesh.{Polygon, no_polygon}
use Rattle.rules.specs.Exits.{padded}
use Rattle.records.specs.Layout.{polygon_size, most_corners, spare_words, polygon_in, polygons_at, Small, Tidy}
use Rattle.records.specs.declared.polygon.Poly.{Poly}

-- the value of a polygon, and what a value holds
unfoldable pub to_poly : Polygon → Poly
to_poly p = record { corners = padded most_corners p.corners; n = length p.corners; region = p.region; code = p.code }

unfoldable pub corners_of : Poly → List ℕ
corners_of p = take p.n p.corners

unfoldable pub polygon_of : Poly → Polygon
polygon_of p = record { corners = corners_of p; region = p.region; code = p.code }

unfoldable pub poly_words : Poly → List ℕ
poly_words p = p.n ∷ p.region ∷ p.code ∷ (p.corners ++ replicate spare_words 0)

-- r is the value of p
pub record Loaded (p : Polygon) (r : Poly) : Type 0 where
  pub is : r ≡ to_poly p
  pub count : r.n ≡ length p.corners
  pub most : r.n ≤ most_corners

-- side i is one of p's
pub record On (p : Poly) (i : ℕ) : Type 0 where
  pub below : i < p.n
  pub most : p.n ≤ most_corners

-- the corners of the polygon whose words start at `at`
unfoldable pub corners_from : List ℕ → ℕ → List ℕ
corners_from w at = (polygon_in (view w at polygon_size)).corners

-- a polygon's words start at `at`
pub record Stands (w : List ℕ) (at : ℕ) : Type 0 where
  pub fits : at + polygon_size ≤ length w
  pub most : get_or w at 0 ≤ most_corners

-- and i is one of its corners
pub record CornerOf (w : List ℕ) (at i : ℕ) : Type 0 where
  pub stands : Stands w at
  pub below : i < length (corners_from w at)

-- of np polygons at o, number i is one
pub record SwapReady (w : List ℕ) (o np i : ℕ) : Type 0 where
  pub fits : o + np * polygon_size ≤ length w
  pub tidy : Tidy w o np
  pub all : Every Small no_polygon (polygons_at w o np)
  pub below : i < np
