-- `sheet::rows::put_top` meets its contract: the line of the unit, and that of the cell. Assumes nothing.
use Rattle.rules.specs.Lines.{ascii}
use Rattle.rules.specs.Sheet.{cell_name}
use Rattle.lines.specs.Pieces.{Going, going_begin, going_room, going_more, going_end}
use Rattle.lines.specs.Printing.{room_as, printed_as, printed_same_length}
use Rattle.sheet.specs.Rows.{line_of_numbers, top_text}
use Rattle.sheet.proofs.LineTexts.{top_texts, top_texts_lem}
use Rattle.sheet.proofs.rows.put_top.Goals as goal

pub put_unit-a-requires : goal.put_unit-a-requires
put_unit-a-requires c =
    let begun : Going (top_text c.args.inches c.args.size c.args.height) c.args.out.now 0 (top_texts c.args.inches c.args.size c.args.height) c.args.out.now 0 = going_begin _ _ _ (top_texts_lem c.args.inches c.args.size c.args.height) c.requires in
    going_room (begun)

pub put_line-requires : goal.put_line-requires
unfolding cell_name ascii
put_line-requires c =
    let begun : Going (top_text c.args.inches c.args.size c.args.height) c.args.out.now 0 (top_texts c.args.inches c.args.size c.args.height) c.args.out.now 0 = going_begin _ _ _ (top_texts_lem c.args.inches c.args.size c.args.height) c.requires in
    room_as _ _ (line_of_numbers cell_name _) (going_room (going_more (begun) c.put_unit-a.ensures))

pub returns : goal.returns
unfolding cell_name ascii
returns c =
    let begun : Going (top_text c.args.inches c.args.size c.args.height) c.args.out.now 0 (top_texts c.args.inches c.args.size c.args.height) c.args.out.now 0 = going_begin _ _ _ (top_texts_lem c.args.inches c.args.size c.args.height) c.requires in
    going_end (going_more (going_more (begun) c.put_unit-a.ensures) (printed_as c.put_line.ensures (line_of_numbers cell_name _)))

pub shape_of-out : goal.shape_of-out
shape_of-out c = printed_same_length (returns c)
