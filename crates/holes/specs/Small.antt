-- Polygons of at most nvp corners have room in their records: a law for all who store them. Assumes nothing.
use Rattle.std.specs.Prelude.{List, ℕ, ◌≤◌}
use Rattle.std.proofs.Common.{arith}
use Rattle.mem.specs.Packed.{Every}
use Rattle.rules.specs.Mesh.{Polygon, no_polygon}
use Rattle.laws.specs.Lists.{All}
use Rattle.laws.proofs.Lists.{all_imp, every_of_all}
use Rattle.laws.specs.Merge.{Good, Below}
use Rattle.records.specs.Layout.{most_corners, Small}

pub small_good : {k nvp : ℕ} {ps : List Polygon} → nvp ≤ most_corners → All (Good (Below k) nvp) ps → Every Small no_polygon ps
small_good {k} {nvp} h a = every_of_all Small no_polygon (omega arith) (all_imp (λ p (g : Good (Below k) nvp p). omega (arith, g.short, h)) a)
