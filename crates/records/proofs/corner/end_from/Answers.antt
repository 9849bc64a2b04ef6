-- `records::corner::end_from` meets its contract: a side ends at the next corner. Assumes nothing.
use Rattle.records.specs.Corners.{from_next, end_is}
use Rattle.records.proofs.corner.end_from.Goals as goal

pub corner_from-requires : goal.corner_from-requires
corner_from-requires c = from_next c.requires _ _ c.count_from.ensures c.next.ensures

pub returns : goal.returns
returns c = end_is c.requires _ _ c.count_from.ensures c.next.ensures c.corner_from.ensures
