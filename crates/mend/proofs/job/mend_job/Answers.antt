-- `mend::job::mend_job` meets its contract: the first refusal that applies, or what the checks let through. Assumes nothing.
use mathlib.Core.Bool.{true, false}
use mathlib.Core.Path.{sym, ◌∙◌}
use Rattle.mend.proofs.Calling.{job_not_whole, job_disagrees, job_short, job_ended, whole_now, agree_now, short_now, mend_ready}
use Rattle.mend.proofs.job.mend_job.Goals as goal

pub returns-then-n-numbers : goal.returns-then-n-numbers
returns-then-n-numbers c =
    let now = job_not_whole c.args.lengths.now c.args.numbers.now c.args.list.now c.args.work.now c.if-n-numbers.true in
    record { reply = now.0; words = now.1 }

pub returns-then-work-most : goal.returns-then-work-most
returns-then-work-most c =
    let agree = c.lengths_agree in
    let now = job_short c.args.lengths.now c.args.numbers.now c.args.list.now c.args.work.now (whole_now
    c.args.numbers.now c.if-n-numbers.false)
    (agree_now c.args.lengths.now c.args.numbers.now true agree.ensures c.if-lengths_agree.true)
    (short_now c.args.lengths.now c.args.numbers.now c.args.list.now c.args.work.now true
    c.longest_of-most.ensures c.if-work-most.true) in
    record { reply = now.0; words = now.1 }

pub mend_checked-requires : goal.mend_checked-requires
mend_checked-requires c =
    mend_ready c.args.lengths.now c.args.numbers.now c.args.work.now c.if-n-numbers.false (sym
    c.lengths_agree.ensures ∙ c.if-lengths_agree.true)
    c.longest_of-most.ensures c.if-work-most.false

pub returns-then-lengths_agree : goal.returns-then-lengths_agree
returns-then-lengths_agree c =
    let agree = c.lengths_agree in
    let now = job_ended c.args.lengths.now c.args.numbers.now c.args.list.now c.args.work.now (whole_now
    c.args.numbers.now c.if-n-numbers.false)
    (agree_now c.args.lengths.now c.args.numbers.now true agree.ensures c.if-lengths_agree.true)
    (short_now c.args.lengths.now c.args.numbers.now c.args.list.now c.args.work.now false
    c.longest_of-most.ensures c.if-work-most.false)
    c.mend_checked.ensures in
    record { reply = now.0; words = now.1 }

pub returns : goal.returns
returns c =
    let agree = c.lengths_agree in
    let now = job_disagrees c.args.lengths.now c.args.numbers.now c.args.list.now c.args.work.now (whole_now
    c.args.numbers.now c.if-n-numbers.false)
    (agree_now c.args.lengths.now c.args.numbers.now false agree.ensures c.if-lengths_agree.false) in
    record { reply = now.0; words = now.1 }
