-- What the laws measure: areas, as the rules sum them, and corners beyond two, in naturals (`Laws` says that these are the rules' sums). Definitions only.
use Rattle.std.specs.Prelude.{cond, List, ℕ, ◌-◌, ℤ, length}
use Rattle.rules.specs.declared.Vertex.{Vertex}
use Rattle.rules.specs.Mesh.{Polygon}
use Rattle.rules.specs.Removal.{Removal}
use Rattle.rules.specs.Areas.{sum_of, polygon_area}
use Rattle.laws.specs.Lists.{total}

-- the doubled area of all polygons, whose vertices are vs
abbrev pub area_of : List Vertex → List Polygon → ℤ
area_of vs ps = sum_of (polygon_area vs) ps

-- how many corners more than two a polygon has, and all polygons
abbrev pub spare_of : Polygon → ℕ
spare_of p = length p.corners - 2

abbrev pub spares_in : List Polygon → ℕ
spares_in ps = total spare_of ps

-- what a removal takes of them: an open one 1, a closed one 2
abbrev pub taken_by : Removal → ℕ
taken_by r = cond r.closed 2 1
