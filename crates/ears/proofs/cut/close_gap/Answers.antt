-- `ears::cut::close_gap` meets its contract: the words behind the one that goes are copied down by one. Assumes nothing.
use Rattle.ears.proofs.Parts.{gap_closed}
use Rattle.ears.proofs.cut.close_gap.Goals as goal

pub returns : goal.returns
returns c = gap_closed c.args.ix.now c.args.k c.requires c.copy_within.ensures.after
