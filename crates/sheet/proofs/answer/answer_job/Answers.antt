-- `sheet::answer::answer_job` meets its contract: the buffers are long enough, so that the build comes to what the sheet's rules say, and its reply is printed.
-- Assumes nothing.
use mathlib.Core.Path.{◌≡◌, refl, sym}
use lib.ListN.{replicate}
use Rattle.rules.specs.Job.{count_all}
use Rattle.rules.specs.Checks.{lengths_of}
use Rattle.outputs.specs.Ready.{buffers}
use Rattle.sheet.specs.Reading.{sheet_of, with_lists}
use Rattle.sheet.specs.Room.{printed_short}
use Rattle.sheet.specs.Answers.{Called}
use Rattle.sheet.specs.Answering.{job_text}
use Rattle.lines.specs.Print.{Printed}
use Rattle.lines.specs.Printing.{printed_as, printed_same_length}
use Rattle.sheet.specs.Enough.{sheet_lengths}
use Rattle.sheet.proofs.Replying.{seven, reply_text_lem, job_room, reply_ready}
use Rattle.sheet.proofs.answer.answer_job.Goals as goal

pub put_reply-requires : goal.put_reply-requires
unfolding with_lists sheet_of lengths_of count_all
put_reply-requires c =
    let called : Called (with_lists (sheet_of c.args.x) c.args.lengths.now c.args.regions.now c.args.codes.now c.args.numbers.now) c.header_of-header.result (buffers (replicate 288 0) (replicate 1152 0) (replicate 1152 0) (replicate 96 0) (replicate 96 0) (replicate 96 0) (replicate 16384 0)) c.into_polygon_mesh-answer.result (buffers c.into_polygon_mesh-answer.new.vertices c.into_polygon_mesh-answer.new.polygons c.into_polygon_mesh-answer.new.neighbours c.into_polygon_mesh-answer.new.polyregions c.into_polygon_mesh-answer.new.polycodes c.into_polygon_mesh-answer.new.flags c.into_polygon_mesh-answer.new.work) = record {
      answered = c.into_polygon_mesh-answer.ensures.answer;
      left = c.into_polygon_mesh-answer.ensures.words;
      long = refl;
      few = c.requires.few;
    } in
    let kept : lengths_of (buffers c.into_polygon_mesh-answer.new.vertices c.into_polygon_mesh-answer.new.polygons c.into_polygon_mesh-answer.new.neighbours c.into_polygon_mesh-answer.new.polyregions c.into_polygon_mesh-answer.new.polycodes c.into_polygon_mesh-answer.new.flags c.into_polygon_mesh-answer.new.work) ≡ sheet_lengths = seven c.into_polygon_mesh-answer.auto.vertices c.into_polygon_mesh-answer.auto.polygons c.into_polygon_mesh-answer.auto.neighbours c.into_polygon_mesh-answer.auto.polyregions c.into_polygon_mesh-answer.auto.polycodes c.into_polygon_mesh-answer.auto.flags c.into_polygon_mesh-answer.auto.work in
    reply_ready c.args.x c.args.lengths.now c.args.regions.now c.args.codes.now c.args.numbers.now (called) (kept) c.args.out.now c.requires.room

pub returns : goal.returns
unfolding with_lists sheet_of lengths_of count_all
returns c =
    let called : Called (with_lists (sheet_of c.args.x) c.args.lengths.now c.args.regions.now c.args.codes.now c.args.numbers.now) c.header_of-header.result (buffers (replicate 288 0) (replicate 1152 0) (replicate 1152 0) (replicate 96 0) (replicate 96 0) (replicate 96 0) (replicate 16384 0)) c.into_polygon_mesh-answer.result (buffers c.into_polygon_mesh-answer.new.vertices c.into_polygon_mesh-answer.new.polygons c.into_polygon_mesh-answer.new.neighbours c.into_polygon_mesh-answer.new.polyregions c.into_polygon_mesh-answer.new.polycodes c.into_polygon_mesh-answer.new.flags c.into_polygon_mesh-answer.new.work) = record {
      answered = c.into_polygon_mesh-answer.ensures.answer;
      left = c.into_polygon_mesh-answer.ensures.words;
      long = refl;
      few = c.requires.few;
    } in
    let whole : Printed (job_text c.args.x c.args.lengths.now c.args.regions.now c.args.codes.now c.args.numbers.now) c.args.out.now c.put_reply.new.out 0 c.put_reply.result = printed_as c.put_reply.ensures (sym (reply_text_lem c.args.x c.args.lengths.now c.args.regions.now c.args.codes.now c.args.numbers.now (called))) in
    record { printed = whole; short = printed_short (whole) (job_room c.args.x c.args.lengths.now c.args.regions.now c.args.codes.now c.args.numbers.now (called)) }

pub shape_of-out : goal.shape_of-out
unfolding with_lists sheet_of lengths_of count_all
shape_of-out c =
    let called : Called (with_lists (sheet_of c.args.x) c.args.lengths.now c.args.regions.now c.args.codes.now c.args.numbers.now) c.header_of-header.result (buffers (replicate 288 0) (replicate 1152 0) (replicate 1152 0) (replicate 96 0) (replicate 96 0) (replicate 96 0) (replicate 16384 0)) c.into_polygon_mesh-answer.result (buffers c.into_polygon_mesh-answer.new.vertices c.into_polygon_mesh-answer.new.polygons c.into_polygon_mesh-answer.new.neighbours c.into_polygon_mesh-answer.new.polyregions c.into_polygon_mesh-answer.new.polycodes c.into_polygon_mesh-answer.new.flags c.into_polygon_mesh-answer.new.work) = record {
      answered = c.into_polygon_mesh-answer.ensures.answer;
      left = c.into_polygon_mesh-answer.ensures.words;
      long = refl;
      few = c.requires.few;
    } in
    let whole : Printed (job_text c.args.x c.args.lengths.now c.args.regions.now c.args.codes.now c.args.numbers.now) c.args.out.now c.put_reply.new.out 0 c.put_reply.result = printed_as c.put_reply.ensures (sym (reply_text_lem c.args.x c.args.lengths.now c.args.regions.now c.args.codes.now c.args.numbers.now (called))) in
    printed_same_length (whole)
