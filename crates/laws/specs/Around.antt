-- R5, the polygons around a vertex: a side as seen from it, sides and corners clear of it, and the polygons that go with their sides. Definitions only.
use Rattle.std.specs.Prelude.{ℕ, ◌<◌, ◌≡◌, ℤ}
use mathlib.Core.List.{List, ◌++◌, Permᴰ}
use Rattle.rules.specs.declared.Point.{Point}
use Rattle.rules.specs.declared.Side.{Side}
use Rattle.rules.specs.Plane.{D}
use Rattle.rules.specs.Mesh.{Polygon}
use Rattle.rules.specs.Removal.{holds, untouched, TakingOut}
use Rattle.laws.specs.Lists.{All, gather}

-- the side from vertex a to vertex b, as seen from the point v, where vertices stand at their places pl
unfoldable pub seen : Point → (ℕ → Point) → ℕ → ℕ → ℤ
seen v pl a b = D v (pl a) (pl b)

-- the number c is below n, and it is not rem; and a side both of whose ends are so
pub record Clear (rem n : ℕ) (c : ℕ) : Type 0 where
  pub other : c ≡ rem → ⊥
  pub inside : c < n

pub record ClearSide (rem n : ℕ) (s : Side) : Type 0 where
  pub starts : Clear rem n s.start
  pub ends : Clear rem n s.end

-- the polygons that go: of those in ps some have gone, in this order, and gave their sides behind out
pub record TookOut (rem : ℕ) (ps : List Polygon) (out : List Side) (t : TakingOut) : Type 0 where
  pub gone : List Polygon
  pub perm : Permᴰ ps (gone ++ t.polygons)
  pub sides : t.sides ≡ out ++ gather (untouched rem) gone
  pub held : All (λ p. 0 < holds rem p) gone
  pub free : All (λ p. holds rem p ≡ 0) t.polygons
