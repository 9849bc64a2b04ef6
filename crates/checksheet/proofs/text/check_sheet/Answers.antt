-- `checksheet::text::check_sheet` meets its contract: a mesh that is too long, a bad heading, or a good one and what is behind it. Assumes nothing.
use native.Mathlib.Omega.{arith}
use Rattle.sheet.specs.Room.{refused_room}
use Rattle.sheet.specs.declared.refusal.SheetRefusal.TheVariants.{TooLong}
use Rattle.sheet.specs.Refusals.{number_of, line_of}
use Rattle.sheet.specs.Texts.{whole_answer}
use Rattle.checksheet.proofs.Verdicts.{lines_short, long_text, refused_text_lem, lines_ready, headed_text}
use Rattle.checksheet.proofs.text.check_sheet.Goals as goal

pub put_sheet_refused-requires : goal.put_sheet_refused-requires
put_sheet_refused-requires c = omega (arith, refused_room (number_of TooLong) (line_of TooLong), c.put_sheet_refused-arg-1.given.0.1)

pub returns-then-text-gt65536 : goal.returns-then-text-gt65536
returns-then-text-gt65536 c =
    let both = whole_answer c.put_sheet_refused-arg-1.given.0.1 (refused_room (number_of TooLong) (line_of TooLong)) c.put_sheet_refused.ensures (long_text c.args.text.now c.if-text-gt65536.true) in
    record { printed = both.0; counted = both.1 }

pub put_sheet_refused-requires-in-Err : goal.put_sheet_refused-requires-in-Err
put_sheet_refused-requires-in-Err c =
    omega (arith, refused_room (number_of c.in-Err.refusal) (line_of c.in-Err.refusal), c.put_sheet_refused-arg-in-Err-1.given.0.1)

pub check_lines-requires : goal.check_lines-requires
check_lines-requires c =
    lines_ready c.args.text.now c.if-text-gt65536.false c.read_heading.ensures.0 c.in-Ok.is c.read_heading.ensures.1
    (omega arith)

pub returns-in-Err : goal.returns-in-Err
returns-in-Err c =
    let both = whole_answer c.put_sheet_refused-arg-in-Err-1.given.0.1 (refused_room (number_of c.in-Err.refusal) (line_of c.in-Err.refusal)) c.put_sheet_refused-in-Err.ensures
    (refused_text_lem c.args.text.now c.if-text-gt65536.false c.read_heading.ensures.0 c.in-Err.is) in
    record { printed = both.0; counted = both.1 }

pub returns-in-Ok : goal.returns-in-Ok
returns-in-Ok c =
    let t = c.args.text.now in
    let both = whole_answer (omega arith) (lines_short t c.in-Ok.x) c.check_lines.ensures
    (headed_text t c.if-text-gt65536.false c.read_heading.ensures.0 c.in-Ok.is c.read_heading.ensures.1) in
    record { printed = both.0; counted = both.1 }
