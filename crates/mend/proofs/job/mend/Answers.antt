-- `mend::job::mend` meets its contract: the job of one contour. Assumes nothing.
use Rattle.mend.proofs.Calling.{one_not_whole, one_short, one_mended}
use Rattle.mend.proofs.job.mend.Goals as goal

pub returns-then-n-numbers : goal.returns-then-n-numbers
returns-then-n-numbers c =
    let now = one_not_whole c.args.numbers.now c.args.list.now c.args.work.now c.if-n-numbers.true in
    record { reply = now.0; numbers = now.1.0; list = now.1.1.0; work = now.1.1.1 }

pub returns-then-n-gt-MOST_VERTICES : goal.returns-then-n-gt-MOST_VERTICES
returns-then-n-gt-MOST_VERTICES c =
    let now = one_short c.args.numbers.now c.args.list.now c.args.work.now c.if-n-numbers.false c.if-n-gt-MOST_VERTICES.true in
    record { reply = now.0; numbers = now.1.0; list = now.1.1.0; work = now.1.1.1 }

pub returns : goal.returns
returns c =
    let now = one_mended c.args.numbers.now c.args.list.now c.args.work.now (c.mend_job.ensures.reply, c.mend_job.ensures.words) in
    record { reply = now.0; numbers = now.1.0; list = now.1.1.0; work = now.1.1.1 }
