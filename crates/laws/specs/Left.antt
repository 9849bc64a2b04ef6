-- What is left of a mesh once a vertex has gone, and the hole around it: the ranges that its filling needs. Definitions only.
use Rattle.std.specs.Prelude.{ℕ, suc, ◌+◌, ◌≤◌, ◌<◌, length}
use Rattle.rules.specs.Lists.{without}
use Rattle.rules.specs.Mesh.{Mesh}
use Rattle.rules.specs.Removal.{polygons_left, sides_left, walk, hole_of}
use Rattle.rules.specs.declared.ChainPoint.{ChainPoint}
use Rattle.laws.specs.Lists.{All}
use Rattle.laws.specs.Measures.{spares_in}
use Rattle.laws.specs.Merge.{Good, Below}

-- of the mesh m, once the vertex rem has gone
pub record Left (nvp rem : ℕ) (m : Mesh) : Type 0 where
  pub good : All (Good (Below (length (without m.vertices rem))) nvp) (polygons_left rem m.polygons)
  pub inside : All (λ (c : ChainPoint). c.vertex < length (without m.vertices rem)) (hole_of (walk (sides_left rem m.polygons)).chain)
  pub least : 3 ≤ length (hole_of (walk (sides_left rem m.polygons)).chain)
  pub most : length (polygons_left rem m.polygons) + length (hole_of (walk (sides_left rem m.polygons)).chain) ≤ suc (spares_in m.polygons)
