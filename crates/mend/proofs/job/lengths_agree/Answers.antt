-- `mend::job::lengths_agree` meets its contract: the lengths are counted, and then summed. Assumes nothing.
use mathlib.Core.Path.{sym}
use Rattle.mend.proofs.Calling.{too_many, so_many}
use Rattle.mend.proofs.job.lengths_agree.Goals as goal

pub returns-then-lengths-gt-MOST_CONTOURS : goal.returns-then-lengths-gt-MOST_CONTOURS
returns-then-lengths-gt-MOST_CONTOURS c =
    sym (too_many c.args.lengths.now c.args.n c.if-lengths-gt-MOST_CONTOURS.true)

pub returns : goal.returns
returns c =
    so_many c.args.lengths.now c.args.n c.if-lengths-gt-MOST_CONTOURS.false c.count_all.ensures.is
