-- R4: a pair that can be joined, what a stored polygon is, and what merging keeps. Definitions only.
use Rattle.std.specs.Prelude.{ℕ, ◌+◌, ◌-◌, ◌≤◌, ◌<◌, ◌≡◌}
use mathlib.Core.List.{List}
use Rattle.std.proofs.Math.ListN.{length}
use Rattle.rules.specs.declared.Vertex.{Vertex}
use Rattle.rules.specs.declared.Pair.{Pair}
use Rattle.rules.specs.Mesh.{Polygon, polygon_at, side_start, side_end}
use Rattle.laws.specs.Measures.{area_of, spares_in}
use Rattle.laws.specs.Lists.{All}

-- a pair that can be joined: its two polygons, and a side of each
pub record Joinable (nvp : ℕ) (ps : List Polygon) (m : Pair) : Type 0 where
  pub order : m.a < m.b
  pub below : m.b < length ps
  pub side_a : m.ea < length (polygon_at ps m.a).corners
  pub side_b : m.eb < length (polygon_at ps m.b).corners
  pub starts : side_start (polygon_at ps m.a).corners m.ea ≡ side_end (polygon_at ps m.b).corners m.eb
  pub ends : side_end (polygon_at ps m.a).corners m.ea ≡ side_start (polygon_at ps m.b).corners m.eb
  pub fits : length (polygon_at ps m.a).corners + length (polygon_at ps m.b).corners - 2 ≤ nvp

-- what a stored polygon is: three corners or more, at most nvp, and P holds of each; with `Below n` for P, each is one of n vertices
pub record Good (P : ℕ → Type 0) (nvp : ℕ) (p : Polygon) : Type 0 where
  pub long : 3 ≤ length p.corners
  pub short : length p.corners ≤ nvp
  pub inside : All P p.corners

abbrev pub Below : ℕ → ℕ → Type 0
Below n c = c < n

-- three corners or more
abbrev pub Long : Polygon → Type 0
Long p = 3 ≤ length p.corners

-- all joins: from the polygons ps to the polygons qs
-- they have the same area and the same corners beyond two, and are stored polygons
pub record Merged (vs : List Vertex) (P : ℕ → Type 0) (nvp : ℕ) (ps qs : List Polygon) : Type 0 where
  pub areas : area_of vs qs ≡ area_of vs ps
  pub spares : spares_in qs ≡ spares_in ps
  pub good : All (Good P nvp) qs

-- whatever the corners' numbers are: triangles ps, merged, have as many corners beyond two as there are triangles
pub record Corners (n : ℕ) (ps : List Polygon) : Type 0 where
  pub spares : spares_in ps ≡ n
  pub long : All Long ps
