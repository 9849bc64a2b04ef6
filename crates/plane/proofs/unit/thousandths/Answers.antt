-- `plane::unit::thousandths` meets its contract: the number as a float, divided. Assumes nothing.
use Rattle.std.proofs.Common.{pos, ap}
use lib.Ieee.{binary32, of_int, div}
use Rattle.rules.specs.Units.{thousandths}
use Rattle.plane.proofs.Thousand.{thousand}
use Rattle.plane.proofs.unit.thousandths.Goals as goal

pub returns : goal.returns
unfolding thousandths
returns c = rw c.nearest_u32_to_f32.ensures (ap (div binary32 (of_int binary32 (pos c.args.n))) thousand)
