-- `ears::index::index_of` meets its contract: a mask of 28 bits is a remainder. Assumes nothing.
use lib.Bits.{and_mask}
use Rattle.rules.specs.Ears.{index_of}
use Rattle.ears.proofs.index.index_of.Goals as goal

pub returns : goal.returns
unfolding index_of
returns c = and_mask c.args.w 28
