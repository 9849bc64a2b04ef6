-- `records::corner::count_from` meets its contract: the first word says it. Assumes nothing.
use Rattle.records.specs.Corners.{length_from}
use Rattle.records.proofs.corner.count_from.Goals as goal

pub returns : goal.returns
returns c = length_from c.requires
