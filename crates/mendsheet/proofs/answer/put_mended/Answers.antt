-- `mendsheet::answer::put_mended` meets its contract: what the mender leaves is the mended sheet, and there is room for its text. Assumes nothing.
use mathlib.Core.Path.{sym}
use lib.Seq.{length-take-le}
use borrow.Author.Rules.{rules}
use Rattle.lines.specs.Printing.{printed_as}
use Rattle.sheet.specs.Room.{printed_short}
use Rattle.mendsheet.proofs.Mends.{blank, blank_long, Mends, sheet_left, kept_few, kept_there, mended_is, mended_short, sheet_ready}
use Rattle.mendsheet.proofs.answer.put_mended.Goals as goal

pub overflow_mul-kept : goal.overflow_mul-kept
overflow_mul-kept c =
    let left : let a = c.args in
    Mends a.lengths.now a.numbers.now blank c.mend_job-reply.result c.mend_job-reply.new.lengths c.mend_job-reply.new.numbers c.mend_job-reply.new.list = sheet_left blank blank c.requires.sheet blank_long blank_long
    c.mend_job-reply.ensures.reply c.mend_job-reply.ensures.words in
    let f = kept_few c.requires.sheet (left) c.kept_in-kept.ensures in
    search rules

pub slice_bounds-put_sheet-end : goal.slice_bounds-put_sheet-end
slice_bounds-put_sheet-end c =
    let left : let a = c.args in
    Mends a.lengths.now a.numbers.now blank c.mend_job-reply.result c.mend_job-reply.new.lengths c.mend_job-reply.new.numbers c.mend_job-reply.new.list = sheet_left blank blank c.requires.sheet blank_long blank_long
    c.mend_job-reply.ensures.reply c.mend_job-reply.ensures.words in
    kept_there c.requires.sheet (left) c.kept_in-kept.ensures

pub slice_bounds-put_sheet-end-2 : goal.slice_bounds-put_sheet-end-2
slice_bounds-put_sheet-end-2 c =
    let left : let a = c.args in
    Mends a.lengths.now a.numbers.now blank c.mend_job-reply.result c.mend_job-reply.new.lengths c.mend_job-reply.new.numbers c.mend_job-reply.new.list = sheet_left blank blank c.requires.sheet blank_long blank_long
    c.mend_job-reply.ensures.reply c.mend_job-reply.ensures.words in
    sym (length-take-le _ _ (kept_there c.requires.sheet (left) c.kept_in-kept.ensures))

pub put_sheet-requires : goal.put_sheet-requires
put_sheet-requires c =
    let left : let a = c.args in
    Mends a.lengths.now a.numbers.now blank c.mend_job-reply.result c.mend_job-reply.new.lengths c.mend_job-reply.new.numbers c.mend_job-reply.new.list = sheet_left blank blank c.requires.sheet blank_long blank_long
    c.mend_job-reply.ensures.reply c.mend_job-reply.ensures.words in
    sheet_ready c.requires.sheet (left) c.kept_in-kept.ensures c.args.x c.requires

pub returns : goal.returns
returns c =
    let left : let a = c.args in
    Mends a.lengths.now a.numbers.now blank c.mend_job-reply.result c.mend_job-reply.new.lengths c.mend_job-reply.new.numbers c.mend_job-reply.new.list = sheet_left blank blank c.requires.sheet blank_long blank_long
    c.mend_job-reply.ensures.reply c.mend_job-reply.ensures.words in
    let t = printed_as c.put_sheet.ensures (mended_is c.requires.sheet (left) c.kept_in-kept.ensures c.args.x c.requires) in
    record { printed = t; short = printed_short t (mended_short c.requires.sheet (left) c.kept_in-kept.ensures c.args.x c.requires) }
