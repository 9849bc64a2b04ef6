-- `stlsheet::text::stl_sheet` meets its contract: a refusal of the reading, or the file of the job of the lists that were read. Assumes nothing.
use mathlib.Core.Path.{sym}
use native.Mathlib.Omega.{arith}
use Rattle.rules.specs.Sheet.{read_sheet, outcome_of}
use Rattle.rules.specs.StlText.{carved_text, stl_text}
use Rattle.lines.specs.Printing.{printed_as}
use Rattle.stlsheet.specs.Carving.{job_file}
use Rattle.sheet.specs.Refusals.{number_of, line_of, refused_as}
use Rattle.sheet.specs.Room.{refused_room, printed_counts}
use Rattle.sheet.specs.Texts.{bad_as, bad_text, taken_as, taken_text, whole_answer}
use Rattle.stlsheet.proofs.text.stl_sheet.Goals as goal

pub put_sheet_refused-requires : goal.put_sheet_refused-requires
put_sheet_refused-requires c = omega (arith, refused_room (number_of c.in-Err.refusal) (line_of c.in-Err.refusal))

pub carve_job-requires : goal.carve_job-requires
carve_job-requires c =
    let t = taken_as c.read_sheet.ensures.read c.in-Ok.is in
    record { few = omega (arith, t.declared, t.vertices); room = omega arith }

pub returns-in-Err : goal.returns-in-Err
unfolding stl_text refused_as
returns-in-Err c =
    let both = whole_answer (omega arith) (refused_room (number_of c.in-Err.refusal) (line_of c.in-Err.refusal)) c.put_sheet_refused.ensures
    (bad_text read_sheet (λ t. carved_text t (outcome_of t.job)) c.args.text.now (bad_as c.read_sheet.ensures.read c.in-Err.is)) in
    record { printed = both.0; counted = both.1 }

pub returns-in-Ok : goal.returns-in-Ok
unfolding stl_text job_file
returns-in-Ok c =
    let t = taken_as c.read_sheet.ensures.read c.in-Ok.is in
    let p = printed_as c.carve_job.ensures.printed (sym (taken_text read_sheet (λ t. carved_text t (outcome_of t.job)) c.args.text.now t.same)) in
    record { printed = p; counted = printed_counts p c.carve_job.ensures.short (omega arith) }
