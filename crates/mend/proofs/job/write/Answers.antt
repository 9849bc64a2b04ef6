-- `mend::job::write` meets its contract: the contours are mended, and what was freed is 0. Assumes nothing.
use Rattle.mend.proofs.Calling.{written}
use Rattle.mend.proofs.job.write.Goals as goal

pub returns : goal.returns
returns c =
    written c.requires c.mend_all-all.ensures c.fill.ensures c.fill-2.ensures
