-- R2: a triangle's three numbers, its area, and what cutting gives: areas, counts and ranges. Definitions only.
use Rattle.std.specs.Prelude.{ℕ, ◌-◌, ◌<◌, ◌≡◌, List, [], ◌∷◌, map, length, get_or, ℤ, ◌+ℤ◌}
use Rattle.rules.specs.declared.Point.{Point}
use Rattle.rules.specs.Plane.{area, origin}
use Rattle.rules.specs.Areas.{sum_of}
use Rattle.rules.specs.Ears.{index_of}
use Rattle.laws.specs.Lists.{All}

-- three numbers below n
pub data Triangle (n : ℕ) : List ℕ → Type 0 where
  triangle : {a b c : ℕ} → a < n → b < n → c < n → Triangle n (a ∷ (b ∷ (c ∷ [])))

-- the area of a triangle of the points ps
unfoldable pub cut_area : List Point → List ℕ → ℤ
cut_area ps t = area (map (λ k. get_or ps k origin) t)

-- the points whose numbers stand in the words
unfoldable pub points_at : List Point → List ℕ → List Point
points_at ps js = map (λ k. get_or ps k origin) js

-- what cutting the words ws on, behind the triangles out, gives: the triangles ts
pub record Cuts (ps : List Point) (ws : List ℕ) (out : List (List ℕ)) (ts : List (List ℕ)) : Type 0 where
  pub areas : sum_of (cut_area ps) ts ≡ sum_of (cut_area ps) out +ℤ area (points_at ps (map index_of ws))
  pub inside : All (Triangle (length ps)) ts

-- R2: of three or more points, at most 2^28, that are cut into the triangles ts
pub record Triangulated (ps : List Point) (ts : List (List ℕ)) : Type 0 where
  pub areas : sum_of (cut_area ps) ts ≡ area ps
  pub counts : length ts ≡ length ps - 2
  pub inside : All (Triangle (length ps)) ts
