-- `stl::scale::is_length` meets its contract: above zero and below infinity is the definition's test. Assumes nothing.
use Rattle.laws.proofs.StlFloats.{above_is_length, not_above_no_length}
use Rattle.stl.proofs.scale.is_length.Goals as goal

pub returns-then-mm : goal.returns-then-mm
returns-then-mm c = above_is_length c.args.mm c.if-mm.true

pub returns-else-mm : goal.returns-else-mm
returns-else-mm c = not_above_no_length c.args.mm c.if-mm.false
