-- `links::adjacency::link_sides` meets its contract: cleared tables hold no record, then all sides recorded, then all joined. Assumes nothing.
use Rattle.links.proofs.Rounds.{record_ready, join_ready, linked_sides}
use Rattle.links.proofs.adjacency.link_sides.Goals as goal

pub record_sides-ne-requires : goal.record_sides-ne-requires
record_sides-ne-requires c = record_ready c.requires.0 c.requires.1 c.fill.ensures

pub join_sides-requires : goal.join_sides-requires
join_sides-requires c = join_ready c.requires.0 c.requires.1 c.fill.ensures c.record_sides-ne.ensures

pub returns : goal.returns
returns c = linked_sides c.requires.0 c.requires.1 c.fill.ensures c.record_sides-ne.ensures c.join_sides.ensures
