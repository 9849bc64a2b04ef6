-- `removals::remove::tidy_up` meets its contract: two fillings, one after the other. Assumes nothing.

use Rattle.removals.proofs.remove.tidy_up.Goals as goal

pub returns : goal.returns
returns c = rw c.fill.ensures at c.fill-2.ensures
