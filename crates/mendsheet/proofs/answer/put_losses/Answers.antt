-- `mendsheet::answer::put_losses` meets its contract: what the mender leaves in its list are the lost points, and there is room for their lines.
-- Assumes nothing.
use mathlib.Core.Path.{sym}
use lib.Seq.{length-take-le}
use Rattle.lines.specs.Printing.{printed_as}
use Rattle.sheet.specs.Room.{printed_short}
use Rattle.mendsheet.proofs.Mends.{blank, blank_long, Mends, sheet_left, lost_there, losses_are, losses_short, losses_ready}
use Rattle.mendsheet.proofs.answer.put_losses.Goals as goal

pub slice_bounds-list-end : goal.slice_bounds-list-end
slice_bounds-list-end c =
    let left : let a = c.args in
    Mends a.copy.now a.numbers.now blank c.mend_job-reply.result c.mend_job-reply.new.lengths c.mend_job-reply.new.numbers c.mend_job-reply.new.list = sheet_left blank blank c.requires.sheet blank_long blank_long
    c.mend_job-reply.ensures.reply c.mend_job-reply.ensures.words in
    lost_there c.requires.sheet (left) c.lost_in-lost.ensures blank_long

pub slice_bounds-put_lost-end : goal.slice_bounds-put_lost-end
slice_bounds-put_lost-end c =
    let left : let a = c.args in
    Mends a.copy.now a.numbers.now blank c.mend_job-reply.result c.mend_job-reply.new.lengths c.mend_job-reply.new.numbers c.mend_job-reply.new.list = sheet_left blank blank c.requires.sheet blank_long blank_long
    c.mend_job-reply.ensures.reply c.mend_job-reply.ensures.words in
    sym (length-take-le _ _ (lost_there c.requires.sheet (left) c.lost_in-lost.ensures blank_long))

pub put_lost-requires : goal.put_lost-requires
put_lost-requires c =
    let left : let a = c.args in
    Mends a.copy.now a.numbers.now blank c.mend_job-reply.result c.mend_job-reply.new.lengths c.mend_job-reply.new.numbers c.mend_job-reply.new.list = sheet_left blank blank c.requires.sheet blank_long blank_long
    c.mend_job-reply.ensures.reply c.mend_job-reply.ensures.words in
    losses_ready c.requires.sheet (left) c.lost_in-lost.ensures blank_long c.args.lengths.now c.requires.few c.requires.room

pub returns : goal.returns
returns c =
    let left : let a = c.args in
    Mends a.copy.now a.numbers.now blank c.mend_job-reply.result c.mend_job-reply.new.lengths c.mend_job-reply.new.numbers c.mend_job-reply.new.list = sheet_left blank blank c.requires.sheet blank_long blank_long
    c.mend_job-reply.ensures.reply c.mend_job-reply.ensures.words in
    let t = printed_as c.put_lost.ensures (losses_are c.requires.sheet (left) c.lost_in-lost.ensures blank_long c.args.lengths.now) in
    record { printed = t; short = printed_short t (losses_short c.requires.sheet (left) c.lost_in-lost.ensures blank_long c.args.lengths.now) }
