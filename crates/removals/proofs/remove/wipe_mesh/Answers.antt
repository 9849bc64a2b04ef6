-- `removals::remove::wipe_mesh` meets its contract: three fillings, one after the other. Assumes nothing.

use Rattle.removals.proofs.remove.wipe_mesh.Goals as goal

pub returns : goal.returns
returns c = rw (c.fill-2.ensures, c.fill.ensures) at c.fill-3.ensures
