-- `stlsheet::answer::carve_job` meets its contract: the buffers are long enough, so that the build comes to what the sheet's rules say, and the file of
-- its mesh, or the refusal's line, is written. Assumes nothing.
use mathlib.Core.Path.{refl, sym}
use lib.ListN.{replicate}
use Rattle.rules.specs.Job.{count_all}
use Rattle.rules.specs.Checks.{Lent, lengths_of}
use Rattle.lines.specs.Print.{Printed}
use Rattle.lines.specs.Printing.{printed_as, printed_same_length}
use Rattle.outputs.specs.Ready.{buffers}
use Rattle.sheet.specs.Answers.{Called}
use Rattle.sheet.specs.Reading.{sheet_of, with_lists}
use Rattle.sheet.specs.Room.{printed_short}
use Rattle.stlsheet.specs.Carving.{job_file}
use Rattle.stlsheet.proofs.Carved.{reply_file_lem, file_room, reply_ready}
use Rattle.stlsheet.proofs.answer.carve_job.Goals as goal

-- what the buffers are at first
abbrev empty : Lent
empty = buffers (replicate 288 0) (replicate 1152 0) (replicate 1152 0) (replicate 96 0) (replicate 96 0) (replicate 96 0) (replicate 16384 0)

-- `called` is the call of the build: what it is given, and what it leaves in the buffers
pub put_reply-requires : goal.put_reply-requires
unfolding with_lists sheet_of lengths_of count_all
put_reply-requires c =
    let w = c.into_polygon_mesh-answer.new in
    let left = buffers w.vertices w.polygons w.neighbours w.polyregions w.polycodes w.flags w.work in
    let a = c.args in
    let sheet = with_lists (sheet_of a.x) a.lengths.now a.regions.now a.codes.now a.numbers.now in
    let called : Called sheet c.header_of-header.result empty c.into_polygon_mesh-answer.result left = record {
      answered = c.into_polygon_mesh-answer.ensures.answer;
      left = c.into_polygon_mesh-answer.ensures.words;
      long = refl;
      few = c.requires.few;
    } in
    let k = c.into_polygon_mesh-answer.auto in
    reply_ready a.x a.lengths.now a.regions.now a.codes.now a.numbers.now called k.vertices k.polygons k.neighbours a.out.now c.requires.room

-- `whole` is what is written
pub shape_of-out : goal.shape_of-out
unfolding with_lists sheet_of lengths_of count_all
shape_of-out c =
    let w = c.into_polygon_mesh-answer.new in
    let left = buffers w.vertices w.polygons w.neighbours w.polyregions w.polycodes w.flags w.work in
    let a = c.args in
    let sheet = with_lists (sheet_of a.x) a.lengths.now a.regions.now a.codes.now a.numbers.now in
    let called : Called sheet c.header_of-header.result empty c.into_polygon_mesh-answer.result left = record {
      answered = c.into_polygon_mesh-answer.ensures.answer;
      left = c.into_polygon_mesh-answer.ensures.words;
      long = refl;
      few = c.requires.few;
    } in
    let whole : Printed (job_file a.x a.lengths.now a.regions.now a.codes.now a.numbers.now) a.out.now c.put_reply.new.out 0 c.put_reply.result =
    printed_as c.put_reply.ensures (sym (reply_file_lem a.x a.lengths.now a.regions.now a.codes.now a.numbers.now called)) in
    printed_same_length whole

pub returns : goal.returns
unfolding with_lists sheet_of lengths_of count_all
returns c =
    let w = c.into_polygon_mesh-answer.new in
    let left = buffers w.vertices w.polygons w.neighbours w.polyregions w.polycodes w.flags w.work in
    let a = c.args in
    let sheet = with_lists (sheet_of a.x) a.lengths.now a.regions.now a.codes.now a.numbers.now in
    let called : Called sheet c.header_of-header.result empty c.into_polygon_mesh-answer.result left = record {
      answered = c.into_polygon_mesh-answer.ensures.answer;
      left = c.into_polygon_mesh-answer.ensures.words;
      long = refl;
      few = c.requires.few;
    } in
    let whole : Printed (job_file a.x a.lengths.now a.regions.now a.codes.now a.numbers.now) a.out.now c.put_reply.new.out 0 c.put_reply.result =
    printed_as c.put_reply.ensures (sym (reply_file_lem a.x a.lengths.now a.regions.now a.codes.now a.numbers.now called)) in
    record {
      printed = whole;
      short = printed_short c.put_reply.ensures (file_room a.x c.into_polygon_mesh-answer.result.reply left.vertices left.polygons left.neighbours);
    }
