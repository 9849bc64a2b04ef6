-- `mendsheet::text::lost_sheet` meets its contract: a refusal of the reading, or the lost points of the lists that were read. Assumes nothing.
use native.Mathlib.Omega.{arith}
use Rattle.rules.specs.Sheet.{read_sheet}
use Rattle.rules.specs.MendSheet.{lost_lines, lost_text}
use Rattle.lines.specs.Printing.{printed_as}
use Rattle.sheet.specs.Parts.{whole_numbers}
use Rattle.sheet.specs.Refusals.{number_of, line_of, refused_as}
use Rattle.sheet.specs.Room.{refused_room, printed_counts}
use Rattle.sheet.specs.Texts.{bad_as, bad_text, taken_as, whole_answer}
use Rattle.mendsheet.proofs.Taken.{losses_asked, lost_text_lem}
use Rattle.mendsheet.proofs.text.lost_sheet.Goals as goal

pub put_sheet_refused-requires : goal.put_sheet_refused-requires
put_sheet_refused-requires c = omega (arith, refused_room (number_of c.in-Err.refusal) (line_of c.in-Err.refusal))

pub slice_bounds-numbers-end : goal.slice_bounds-numbers-end
slice_bounds-numbers-end c =
    let t = taken_as c.read_sheet.ensures.read c.in-Ok.is in
    omega (arith, t.vertices, t.room.numbers)

pub slice_bounds-put_losses-end-in-Ok-2 : goal.slice_bounds-put_losses-end-in-Ok-2
slice_bounds-put_losses-end-in-Ok-2 c =
    let t = taken_as c.read_sheet.ensures.read c.in-Ok.is in
    whole_numbers _ _ t.vertices t.room.numbers

pub put_losses-requires : goal.put_losses-requires
put_losses-requires c = losses_asked (taken_as c.read_sheet.ensures.read c.in-Ok.is) (omega arith)

pub returns-in-Err : goal.returns-in-Err
unfolding lost_text refused_as
returns-in-Err c =
    let both = whole_answer (omega arith) (refused_room (number_of c.in-Err.refusal) (line_of c.in-Err.refusal)) c.put_sheet_refused.ensures
    (bad_text read_sheet (λ t. lost_lines t.job) c.args.text.now (bad_as c.read_sheet.ensures.read c.in-Err.is)) in
    record { printed = both.0; counted = both.1 }

pub returns-in-Ok : goal.returns-in-Ok
returns-in-Ok c =
    let t = printed_as c.put_losses.ensures.printed (lost_text_lem c.args.text.now (taken_as c.read_sheet.ensures.read c.in-Ok.is)) in
    record { printed = t; counted = printed_counts t c.put_losses.ensures.short (omega arith) }
