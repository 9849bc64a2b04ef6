-- `mend::close::move_vertex` meets its contract: the four numbers are copied. Assumes nothing.
use Rattle.mend.proofs.Closing.{moved}
use Rattle.mend.proofs.close.move_vertex.Goals as goal

pub returns : goal.returns
returns c = moved c.args.numbers.now c.args.from c.args.to c.requires c.copy_within.ensures.after
