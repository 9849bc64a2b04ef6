-- `stlsheet::answer::put_reply` meets its contract: a refusal's line, or the file of the mesh in the buffers. Assumes nothing.
use native.Mathlib.Omega.{arith}
use lib.ListN.{length}
use Rattle.lines.specs.Printing.{printed_as}
use Rattle.sheet.specs.Room.{refused_room}
use Rattle.stlsheet.proofs.Carved.{refused_is, built_is, built_stands}
use Rattle.stlsheet.proofs.answer.put_reply.Goals as goal

pub put_refused-requires : goal.put_refused-requires
put_refused-requires c =
    omega (arith, refused_room c.refusal_number.result c.refusal_second.result, c.requires.room)

pub put_carved-requires : goal.put_carved-requires
put_carved-requires c =
    let a = c.args in
    built_stands a.x a.reply a.vertices.now a.polygons.now a.neighbours.now
    c.in-Ok.built.polygons c.in-Ok.built.vertices c.in-Ok.is c.requires

pub returns-in-Err : goal.returns-in-Err
returns-in-Err c =
    let a = c.args in
    printed_as c.put_refused.ensures
    (refused_is a.x a.reply a.vertices.now a.polygons.now a.neighbours.now
    c.in-Err.r c.refusal_number.result c.refusal_second.result
    c.in-Err.is c.refusal_number.ensures c.refusal_second.ensures)

pub returns-in-Ok : goal.returns-in-Ok
returns-in-Ok c =
    let a = c.args in
    printed_as c.put_carved.ensures
    (built_is a.x a.reply a.vertices.now a.polygons.now a.neighbours.now
    c.in-Ok.built.polygons c.in-Ok.built.vertices (length a.out.now) c.in-Ok.is c.requires.room)
