-- `sheet::text::mesh_sheet` meets its contract: a refusal of the reading, or the answer to the job of the lists that were read. Assumes nothing.
use mathlib.Core.Path.{sym}
use native.Mathlib.Omega.{arith}
use Rattle.rules.specs.Sheet.{read_sheet, outcome_of, built_text, text_of}
use Rattle.lines.specs.Printing.{printed_as}
use Rattle.sheet.specs.Answering.{job_text}
use Rattle.sheet.specs.Refusals.{number_of, line_of, refused_as}
use Rattle.sheet.specs.Room.{refused_room, printed_counts}
use Rattle.sheet.specs.Texts.{bad_as, bad_text, taken_as, taken_text, whole_answer}
use Rattle.sheet.proofs.text.mesh_sheet.Goals as goal

pub put_sheet_refused-requires : goal.put_sheet_refused-requires
put_sheet_refused-requires c = omega (arith, refused_room (number_of c.in-Err.refusal) (line_of c.in-Err.refusal))

pub answer_job-requires : goal.answer_job-requires
answer_job-requires c =
    let t = taken_as c.read_sheet.ensures.read c.in-Ok.is in
    record { few = omega (arith, t.declared, t.vertices); room = omega arith }

pub returns-in-Err : goal.returns-in-Err
unfolding text_of refused_as
returns-in-Err c =
    let both = whole_answer (omega arith) (refused_room (number_of c.in-Err.refusal) (line_of c.in-Err.refusal)) c.put_sheet_refused.ensures
    (bad_text read_sheet (λ t. built_text t (outcome_of t.job)) c.args.text.now (bad_as c.read_sheet.ensures.read c.in-Err.is)) in
    record { printed = both.0; counted = both.1 }

pub returns-in-Ok : goal.returns-in-Ok
unfolding text_of job_text
returns-in-Ok c =
    let t = taken_as c.read_sheet.ensures.read c.in-Ok.is in
    let p = printed_as c.answer_job.ensures.printed (sym (taken_text read_sheet (λ t. built_text t (outcome_of t.job)) c.args.text.now t.same)) in
    record { printed = p; counted = printed_counts p c.answer_job.ensures.short (omega arith) }
