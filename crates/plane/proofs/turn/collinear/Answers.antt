-- `plane::turn::collinear` meets its contract: D fits an i32, so that its bits are 0 where it is. Assumes nothing.
use Rattle.std.proofs.Common.{ap, ◌∙◌}
use Rattle.rules.specs.Plane.{is_zero}
use Rattle.rules.specs.Plane as Plane
use Rattle.plane.proofs.Sizes.{zero_test}
use Rattle.plane.proofs.turn.collinear.Goals as goal

pub returns : goal.returns
unfolding Plane.collinear
returns c = zero_test c.area2.result c.area2.type_inv ∙ ap is_zero c.area2.ensures
