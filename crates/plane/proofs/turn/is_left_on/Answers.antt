-- `plane::turn::is_left_on` meets its contract: D fits an i32, so that its bits are at most 0 where it is. Assumes nothing.
use Rattle.ints.specs.Machine.{reads_result, le_reads}
use Rattle.rules.specs.Plane.{is_left_on}
use Rattle.plane.proofs.Sizes.{nought}
use Rattle.plane.proofs.turn.is_left_on.Goals as goal

pub returns : goal.returns
unfolding is_left_on
returns c = le_reads (reads_result (record { sfits = c.area2.type_inv }) c.area2.ensures) nought
