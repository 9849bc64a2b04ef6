-- `sheet::answer::put_reply` meets its contract: each arm prints the text of its reply. Assumes nothing.
use Rattle.lines.specs.Printing.{printed_as}
use Rattle.lines.specs.Pieces.{going_room, going_more, going_end}
use Rattle.sheet.proofs.Replying.{refused_is, refused_room_is, built_going, built_stands}
use Rattle.sheet.proofs.answer.put_reply.Goals as goal

pub put_refused-requires : goal.put_refused-requires
put_refused-requires c = refused_room_is c.args.x c.args.reply c.args.vertices.now c.args.polygons.now c.args.neighbours.now c.args.regions.now c.args.codes.now c.requires c.in-Err.r c.refusal_number.result c.refusal_second.result c.in-Err.is c.refusal_number.ensures c.refusal_second.ensures

pub put_top-at-requires : goal.put_top-at-requires
put_top-at-requires c = going_room (built_going c.args.x c.args.reply c.args.vertices.now c.args.polygons.now c.args.neighbours.now c.args.regions.now c.args.codes.now c.requires c.in-Ok.built.polygons c.in-Ok.built.vertices c.in-Ok.is)

pub put_mesh-requires : goal.put_mesh-requires
put_mesh-requires c = record { stands = built_stands c.args.x c.args.reply c.args.vertices.now c.args.polygons.now c.args.neighbours.now c.args.regions.now c.args.codes.now c.requires c.in-Ok.built.polygons c.in-Ok.built.vertices c.in-Ok.is; room = going_room (going_more (built_going c.args.x c.args.reply c.args.vertices.now c.args.polygons.now c.args.neighbours.now c.args.regions.now c.args.codes.now c.requires c.in-Ok.built.polygons c.in-Ok.built.vertices c.in-Ok.is) c.put_top-at.ensures) }

pub returns-in-Err : goal.returns-in-Err
returns-in-Err c = printed_as c.put_refused.ensures (refused_is c.args.x c.args.reply c.args.vertices.now c.args.polygons.now c.args.neighbours.now c.args.regions.now c.args.codes.now c.in-Err.r c.refusal_number.result c.refusal_second.result c.in-Err.is c.refusal_number.ensures c.refusal_second.ensures)

pub returns-in-Ok : goal.returns-in-Ok
returns-in-Ok c = going_end (going_more (going_more (built_going c.args.x c.args.reply c.args.vertices.now c.args.polygons.now c.args.neighbours.now c.args.regions.now c.args.codes.now c.requires c.in-Ok.built.polygons c.in-Ok.built.vertices c.in-Ok.is) c.put_top-at.ensures) c.put_mesh.ensures)
