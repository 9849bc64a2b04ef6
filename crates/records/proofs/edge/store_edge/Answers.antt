-- `records::edge::store_edge` meets its contract: its words are copied to their place. Assumes nothing.
use Rattle.std.proofs.Common.{refl, arith}
use Rattle.records.specs.Layout.{edge_words}
use Rattle.records.specs.Stored.{stored}
use Rattle.records.proofs.edge.store_edge.Goals as goal

pub returns : goal.returns
unfolding edge_words
returns c = stored c.args.work.now c.args.at _ _ (omega arith) c.copy_from_slice.ensures.after refl c.requires
