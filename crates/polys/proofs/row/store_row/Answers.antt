-- `polys::row::store_row` meets its contract: five words, one after the other. Assumes nothing.
use Rattle.polys.proofs.Keeps.{row_stored}
use Rattle.polys.proofs.row.store_row.Goals as goal

pub returns : goal.returns
returns c = let a = c.args in row_stored _ a.at a.m a.s
