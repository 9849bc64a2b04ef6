-- `mendsheet::print::put_heading` meets its contract: the top, and the lines of nvp and grid, are printed one behind the other. Assumes nothing.
use Rattle.rules.specs.Lines.{ascii}
use Rattle.rules.specs.Sheet.{nvp_name, grid_name}
use Rattle.rules.specs.MendSheet.{heading_text}
use Rattle.lines.specs.Pieces.{Going, going_begin, going_room, going_more, going_end}
use Rattle.lines.specs.Printing.{room_as, printed_as}
use Rattle.sheet.specs.Rows.{line_of_numbers}
use Rattle.sheet.specs.Reading.{sheet_of}
use Rattle.mendsheet.proofs.SheetTexts.{heading_texts, heading_texts_lem}
use Rattle.mendsheet.proofs.print.put_heading.Goals as goal

pub put_top-a-requires : goal.put_top-a-requires
put_top-a-requires c =
    let begun : Going (heading_text (sheet_of c.args.x)) c.args.out.now 0 (heading_texts c.args.x) c.args.out.now 0 = going_begin _ _ _ (heading_texts_lem c.args.x) c.requires in
    going_room (begun)

pub put_line-b-requires : goal.put_line-b-requires
unfolding nvp_name ascii
put_line-b-requires c =
    let begun : Going (heading_text (sheet_of c.args.x)) c.args.out.now 0 (heading_texts c.args.x) c.args.out.now 0 = going_begin _ _ _ (heading_texts_lem c.args.x) c.requires in
    room_as _ _ (line_of_numbers nvp_name _) (going_room (going_more begun c.put_top-a.ensures))

pub put_line-requires : goal.put_line-requires
unfolding nvp_name grid_name ascii
put_line-requires c =
    let begun : Going (heading_text (sheet_of c.args.x)) c.args.out.now 0 (heading_texts c.args.x) c.args.out.now 0 = going_begin _ _ _ (heading_texts_lem c.args.x) c.requires in
    room_as _ _ (line_of_numbers grid_name _) (going_room (going_more (going_more (begun) c.put_top-a.ensures) (printed_as c.put_line-b.ensures (line_of_numbers nvp_name _))))

pub returns : goal.returns
unfolding nvp_name grid_name ascii
returns c =
    let begun : Going (heading_text (sheet_of c.args.x)) c.args.out.now 0 (heading_texts c.args.x) c.args.out.now 0 = going_begin _ _ _ (heading_texts_lem c.args.x) c.requires in
    going_end (going_more (going_more (going_more (begun) c.put_top-a.ensures) (printed_as c.put_line-b.ensures (line_of_numbers nvp_name _))) (printed_as c.put_line.ensures (line_of_numbers grid_name _)))
