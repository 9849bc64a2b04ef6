-- `plane::turn::is_left` meets its contract: D fits an i32, so that its bits are below 0 where it is. Assumes nothing.
use Rattle.ints.specs.Machine.{reads_result, lt_reads}
use Rattle.rules.specs.Plane.{is_left}
use Rattle.plane.proofs.Sizes.{nought}
use Rattle.plane.proofs.turn.is_left.Goals as goal

pub returns : goal.returns
unfolding is_left
returns c = lt_reads (reads_result (record { sfits = c.area2.type_inv }) c.area2.ensures) nought
