-- `mendsheet::text::mend_sheet` meets its contract: a refusal of the reading, or the mended sheet of the lists that were read. Assumes nothing.
use native.Mathlib.Omega.{arith}
use Rattle.rules.specs.Sheet.{read_sheet}
use Rattle.rules.specs.MendSheet.{mended_sheet, sheet_text, mend_text}
use Rattle.lines.specs.Printing.{printed_as}
use Rattle.sheet.specs.Parts.{whole_part, whole_numbers}
use Rattle.sheet.specs.Refusals.{number_of, line_of, refused_as}
use Rattle.sheet.specs.Room.{refused_room, printed_counts}
use Rattle.sheet.specs.Texts.{bad_as, bad_text, taken_as, whole_answer}
use Rattle.mendsheet.proofs.Taken.{mend_ready, mend_text_lem}
use Rattle.mendsheet.proofs.text.mend_sheet.Goals as goal

pub put_sheet_refused-requires : goal.put_sheet_refused-requires
put_sheet_refused-requires c = omega (arith, refused_room (number_of c.in-Err.refusal) (line_of c.in-Err.refusal))

pub slice_bounds-lengths-end : goal.slice_bounds-lengths-end
slice_bounds-lengths-end c =
    let t = taken_as c.read_sheet.ensures.read c.in-Ok.is in
    omega (arith, t.contours, t.room.lengths)

pub slice_bounds-put_mended-end : goal.slice_bounds-put_mended-end
slice_bounds-put_mended-end c =
    let t = taken_as c.read_sheet.ensures.read c.in-Ok.is in
    whole_part _ _ t.contours t.room.lengths

pub slice_bounds-numbers-end : goal.slice_bounds-numbers-end
slice_bounds-numbers-end c =
    let t = taken_as c.read_sheet.ensures.read c.in-Ok.is in
    omega (arith, t.vertices, t.room.numbers)

pub slice_bounds-put_mended-end-in-Ok-3 : goal.slice_bounds-put_mended-end-in-Ok-3
slice_bounds-put_mended-end-in-Ok-3 c =
    let t = taken_as c.read_sheet.ensures.read c.in-Ok.is in
    whole_numbers _ _ t.vertices t.room.numbers

pub put_mended-requires : goal.put_mended-requires
put_mended-requires c = mend_ready (taken_as c.read_sheet.ensures.read c.in-Ok.is) (omega arith)

pub returns-in-Err : goal.returns-in-Err
unfolding mend_text refused_as
returns-in-Err c =
    let both = whole_answer (omega arith) (refused_room (number_of c.in-Err.refusal) (line_of c.in-Err.refusal)) c.put_sheet_refused.ensures
    (bad_text read_sheet (λ t. sheet_text (mended_sheet t)) c.args.text.now (bad_as c.read_sheet.ensures.read c.in-Err.is)) in
    record { printed = both.0; counted = both.1 }

pub returns-in-Ok : goal.returns-in-Ok
returns-in-Ok c =
    let t = printed_as c.put_mended.ensures.printed (mend_text_lem c.args.text.now (taken_as c.read_sheet.ensures.read c.in-Ok.is)) in
    record { printed = t; counted = printed_counts t c.put_mended.ensures.short (omega arith) }
