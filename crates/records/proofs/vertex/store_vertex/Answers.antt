-- `records::vertex::store_vertex` meets its contract: its words are copied to their place. Assumes nothing.
use Rattle.std.proofs.Common.{refl, arith}
use Rattle.records.specs.Layout.{vertex_words}
use Rattle.records.specs.Stored.{stored}
use Rattle.records.proofs.vertex.store_vertex.Goals as goal

pub returns : goal.returns
unfolding vertex_words
returns c =
    rw (← c.from.ensures, ← c.from-2.ensures, ← c.from-3.ensures)
    (stored c.args.work.now c.args.at _ _ (omega arith) c.copy_from_slice.ensures.after refl c.requires)
