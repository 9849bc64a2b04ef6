-- `records::side::store_side` meets its contract: its words are copied to their place. Assumes nothing.
use Rattle.std.proofs.Common.{refl, arith}
use Rattle.records.specs.Layout.{side_words}
use Rattle.records.specs.Stored.{stored}
use Rattle.records.proofs.side.store_side.Goals as goal

pub returns : goal.returns
unfolding side_words
returns c = stored c.args.work.now c.args.at _ _ (omega arith) c.copy_from_slice.ensures.after refl c.requires
