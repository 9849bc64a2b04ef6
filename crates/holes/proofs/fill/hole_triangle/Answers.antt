use Rattle.holes.proofs.Fills.{triangle_made}
use Rattle.holes.proofs.fill.hole_triangle.Goals as goal

-- src/fill.rt:44:1
pub returns : goal.returns
returns c = triangle_made _ _ _ _ c.load_point-a.ensures c.load_point-b.ensures c.load_point-c.ensures c.agreed_region.ensures
