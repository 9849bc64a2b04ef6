-- `links::adjacency::store_links` meets its contract: the two words written are those of `store_words`. Assumes nothing.
use Rattle.links.proofs.Stores.{stored_none, stored_both}
use Rattle.links.proofs.adjacency.store_links.Goals as goal

pub returns-then-e : goal.returns-then-e
returns-then-e c = stored_none _ _ c.load_edge-e.ensures c.if-e.true

pub returns : goal.returns
returns c = stored_both _ _ c.load_edge-e.ensures c.if-e.false c.set_link.ensures c.set_link-2.ensures
