-- `records::corner::corner_from` meets its contract: corner i stands behind the three first words. Assumes nothing.
use Rattle.records.specs.Corners.{from_is, from_fits}
use borrow.Author.Rules.{rules}
use Rattle.records.proofs.corner.corner_from.Goals as goal

pub overflow_add-result-2 : goal.overflow_add-result-2
overflow_add-result-2 c = let h = from_fits c.requires in search rules

pub offset_bounds-work-at : goal.offset_bounds-work-at
offset_bounds-work-at c = let h = from_fits c.requires in search rules

pub bounds-work-at : goal.bounds-work-at
bounds-work-at c = from_fits c.requires

pub returns : goal.returns
returns c = from_is c.requires
