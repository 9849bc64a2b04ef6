-- `checksheet::text::check_lines` meets its contract: a refusal of the reading, or the verdict on the lists that were read. Assumes nothing.
use mathlib.Core.Path.{sym, ap}
use Prim.Native.Nat.{◌*◌, ◌≤◌}
use native.Mathlib.Omega.{arith}
use lib.Seq.{length-take-le}
use mir.Syntax.{w64}
use mir.Val.{SFits}
use mir.Facts.{to_z-of_z}
use Rattle.lines.specs.Printing.{printed_as}
use Rattle.sheet.specs.Room.{refused_room}
use Rattle.sheet.specs.Refusals.{number_of, line_of}
use Rattle.checksheet.specs.Claims.{ClaimedAs}
use Rattle.checksheet.proofs.MeshesRead.{words_few, rows_fit}
use Rattle.checksheet.proofs.Verdicts.{unread_text, claimed, claimed_text}
use borrow.Author.Rules.{rules}
use Rattle.checksheet.proofs.text.check_lines.Goals as goal

pub put_sheet_refused-requires : goal.put_sheet_refused-requires
put_sheet_refused-requires c =
    omega (arith, refused_room (number_of c.in-Err.refusal) (line_of c.in-Err.refusal), c.requires.room)

pub overflow_mul-rows : goal.overflow_mul-rows
overflow_mul-rows c =
    let read : ClaimedAs c.args.text.now c.args.x c.in-Ok.mesh.places c.in-Ok.mesh.polygons c.in-Ok.mesh.total
    c.read_mesh.new.vertices c.read_mesh.new.polygons c.read_mesh.new.links = claimed c.args.text.now c.args.x c.read_mesh.ensures c.in-Ok.is in
    let rows : c.in-Ok.mesh.polygons * c.row_words.result ≤ 98304 = rows_fit c.in-Ok.mesh.polygons (read).polygons (omega (arith, words_few c.args.x.nvp, c.row_words.ensures)) in
    record { fits = omega (arith, rows) }

pub overflow_mul-vertices : goal.overflow_mul-vertices
overflow_mul-vertices c =
    let read : ClaimedAs c.args.text.now c.args.x c.in-Ok.mesh.places c.in-Ok.mesh.polygons c.in-Ok.mesh.total
    c.read_mesh.new.vertices c.read_mesh.new.polygons c.read_mesh.new.links = claimed c.args.text.now c.args.x c.read_mesh.ensures c.in-Ok.is in
    record { fits = omega (arith, (read).places) }

pub slice_bounds-vertices-end : goal.slice_bounds-vertices-end
slice_bounds-vertices-end c =
    let read : ClaimedAs c.args.text.now c.args.x c.in-Ok.mesh.places c.in-Ok.mesh.polygons c.in-Ok.mesh.total
    c.read_mesh.new.vertices c.read_mesh.new.polygons c.read_mesh.new.links = claimed c.args.text.now c.args.x c.read_mesh.ensures c.in-Ok.is in
    omega (arith, (read).places, c.read_mesh.auto.vertices)

pub slice_bounds-put_answer-end : goal.slice_bounds-put_answer-end
slice_bounds-put_answer-end c =
    let read : ClaimedAs c.args.text.now c.args.x c.in-Ok.mesh.places c.in-Ok.mesh.polygons c.in-Ok.mesh.total
    c.read_mesh.new.vertices c.read_mesh.new.polygons c.read_mesh.new.links = claimed c.args.text.now c.args.x c.read_mesh.ensures c.in-Ok.is in
    sym (length-take-le _ _ (omega (arith, (read).places, c.read_mesh.auto.vertices)))

pub slice_bounds-polygons-end : goal.slice_bounds-polygons-end
slice_bounds-polygons-end c =
    let read : ClaimedAs c.args.text.now c.args.x c.in-Ok.mesh.places c.in-Ok.mesh.polygons c.in-Ok.mesh.total
    c.read_mesh.new.vertices c.read_mesh.new.polygons c.read_mesh.new.links = claimed c.args.text.now c.args.x c.read_mesh.ensures c.in-Ok.is in
    let rows : c.in-Ok.mesh.polygons * c.row_words.result ≤ 98304 = rows_fit c.in-Ok.mesh.polygons (read).polygons (omega (arith, words_few c.args.x.nvp, c.row_words.ensures)) in
    omega (arith, rows, c.read_mesh.auto.polygons)

pub slice_bounds-put_answer-end-in-Ok : goal.slice_bounds-put_answer-end-in-Ok
slice_bounds-put_answer-end-in-Ok c =
    let read : ClaimedAs c.args.text.now c.args.x c.in-Ok.mesh.places c.in-Ok.mesh.polygons c.in-Ok.mesh.total
    c.read_mesh.new.vertices c.read_mesh.new.polygons c.read_mesh.new.links = claimed c.args.text.now c.args.x c.read_mesh.ensures c.in-Ok.is in
    let rows : c.in-Ok.mesh.polygons * c.row_words.result ≤ 98304 = rows_fit c.in-Ok.mesh.polygons (read).polygons (omega (arith, words_few c.args.x.nvp, c.row_words.ensures)) in
    sym (length-take-le _ _ (omega (arith, rows, c.read_mesh.auto.polygons)))

pub slice_bounds-links-end : goal.slice_bounds-links-end
slice_bounds-links-end c =
    let read : ClaimedAs c.args.text.now c.args.x c.in-Ok.mesh.places c.in-Ok.mesh.polygons c.in-Ok.mesh.total
    c.read_mesh.new.vertices c.read_mesh.new.polygons c.read_mesh.new.links = claimed c.args.text.now c.args.x c.read_mesh.ensures c.in-Ok.is in
    let rows : c.in-Ok.mesh.polygons * c.row_words.result ≤ 98304 = rows_fit c.in-Ok.mesh.polygons (read).polygons (omega (arith, words_few c.args.x.nvp, c.row_words.ensures)) in
    omega (arith, rows, c.read_mesh.auto.links)

pub slice_bounds-put_answer-end-in-Ok-2 : goal.slice_bounds-put_answer-end-in-Ok-2
slice_bounds-put_answer-end-in-Ok-2 c =
    let read : ClaimedAs c.args.text.now c.args.x c.in-Ok.mesh.places c.in-Ok.mesh.polygons c.in-Ok.mesh.total
    c.read_mesh.new.vertices c.read_mesh.new.polygons c.read_mesh.new.links = claimed c.args.text.now c.args.x c.read_mesh.ensures c.in-Ok.is in
    let rows : c.in-Ok.mesh.polygons * c.row_words.result ≤ 98304 = rows_fit c.in-Ok.mesh.polygons (read).polygons (omega (arith, words_few c.args.x.nvp, c.row_words.ensures)) in
    sym (length-take-le _ _ (omega (arith, rows, c.read_mesh.auto.links)))

pub returns-in-Err : goal.returns-in-Err
returns-in-Err c =
    printed_as c.put_sheet_refused.ensures (unread_text c.args.text.now c.args.x c.read_mesh.ensures c.in-Err.is)

pub returns-in-Ok : goal.returns-in-Ok
returns-in-Ok c =
    let total-fits : SFits w64 c.in-Ok.mesh.total = search rules in
    printed_as c.put_answer.ensures
    (claimed_text c.args.text.now c.args.x c.read_mesh.ensures c.in-Ok.is (to_z-of_z (total-fits))
    (ap (λ w. c.in-Ok.mesh.polygons * w) c.row_words.ensures))
