-- `sheet::rows::put_polygon` meets its contract: the texts of the `p` line, and then the `n` line, are printed one behind the other. Assumes nothing.
use mathlib.Core.Path.{ap}
use native.Mathlib.Omega.{arith}
use lib.ListN.{drop}
use Rattle.rules.specs.Lines.{ascii, cell}
use Rattle.rules.specs.Sheet.{p_name, n_name}
use Rattle.lines.specs.Pieces.{Going, going_begin, going_room, going_more, going_place, going_byte, going_end}
use Rattle.lines.specs.Printing.{room_as, printed_as, printed_same_length}
use Rattle.sheet.specs.Rows.{line_of_numbers, polygon_text}
use Rattle.sheet.proofs.LineTexts.{polygon_texts, polygon_texts_lem}
use Rattle.sheet.proofs.rows.put_polygon.Goals as goal

pub put_text-a-requires : goal.put_text-a-requires
unfolding p_name ascii
put_text-a-requires c =
    let begun : (Going (polygon_text c.args.region c.args.code c.args.corners.now c.args.links.now) c.args.out.now c.args.at (drop 0 (polygon_texts c.args.region c.args.code c.args.corners.now c.args.links.now)) c.args.out.now c.args.at) = going_begin _ _ _ (polygon_texts_lem c.args.region c.args.code c.args.corners.now c.args.links.now) c.requires in
    going_room (begun)

pub put_cell-b-requires : goal.put_cell-b-requires
unfolding p_name ascii
put_cell-b-requires c =
    let begun : (Going (polygon_text c.args.region c.args.code c.args.corners.now c.args.links.now) c.args.out.now c.args.at (drop 0 (polygon_texts c.args.region c.args.code c.args.corners.now c.args.links.now)) c.args.out.now c.args.at) = going_begin _ _ _ (polygon_texts_lem c.args.region c.args.code c.args.corners.now c.args.links.now) c.requires in
    let named : (Going (polygon_text c.args.region c.args.code c.args.corners.now c.args.links.now) c.args.out.now c.args.at (drop 1 (polygon_texts c.args.region c.args.code c.args.corners.now c.args.links.now)) c.put_text-a.new.out c.put_text-a.result) = going_more (begun) c.put_text-a.ensures in
    room_as _ _ (ap cell c.from.ensures) (going_room named)

pub put_cell-c-requires : goal.put_cell-c-requires
unfolding p_name ascii
put_cell-c-requires c =
    let begun : (Going (polygon_text c.args.region c.args.code c.args.corners.now c.args.links.now) c.args.out.now c.args.at (drop 0 (polygon_texts c.args.region c.args.code c.args.corners.now c.args.links.now)) c.args.out.now c.args.at) = going_begin _ _ _ (polygon_texts_lem c.args.region c.args.code c.args.corners.now c.args.links.now) c.requires in
    let named : (Going (polygon_text c.args.region c.args.code c.args.corners.now c.args.links.now) c.args.out.now c.args.at (drop 1 (polygon_texts c.args.region c.args.code c.args.corners.now c.args.links.now)) c.put_text-a.new.out c.put_text-a.result) = going_more (begun) c.put_text-a.ensures in
    let placed : (Going (polygon_text c.args.region c.args.code c.args.corners.now c.args.links.now) c.args.out.now c.args.at (drop 2 (polygon_texts c.args.region c.args.code c.args.corners.now c.args.links.now)) c.put_cell-b.new.out c.put_cell-b.result) = going_more (named) (printed_as c.put_cell-b.ensures (ap cell c.from.ensures)) in
    room_as _ _ (ap cell c.from-2.ensures) (going_room placed)

pub put_cells-e-requires : goal.put_cells-e-requires
unfolding p_name ascii
put_cells-e-requires c =
    let begun : (Going (polygon_text c.args.region c.args.code c.args.corners.now c.args.links.now) c.args.out.now c.args.at (drop 0 (polygon_texts c.args.region c.args.code c.args.corners.now c.args.links.now)) c.args.out.now c.args.at) = going_begin _ _ _ (polygon_texts_lem c.args.region c.args.code c.args.corners.now c.args.links.now) c.requires in
    let named : (Going (polygon_text c.args.region c.args.code c.args.corners.now c.args.links.now) c.args.out.now c.args.at (drop 1 (polygon_texts c.args.region c.args.code c.args.corners.now c.args.links.now)) c.put_text-a.new.out c.put_text-a.result) = going_more (begun) c.put_text-a.ensures in
    let placed : (Going (polygon_text c.args.region c.args.code c.args.corners.now c.args.links.now) c.args.out.now c.args.at (drop 2 (polygon_texts c.args.region c.args.code c.args.corners.now c.args.links.now)) c.put_cell-b.new.out c.put_cell-b.result) = going_more (named) (printed_as c.put_cell-b.ensures (ap cell c.from.ensures)) in
    let coded : (Going (polygon_text c.args.region c.args.code c.args.corners.now c.args.links.now) c.args.out.now c.args.at (drop 3 (polygon_texts c.args.region c.args.code c.args.corners.now c.args.links.now)) c.put_cell-c.new.out c.put_cell-c.result) = going_more (placed) (printed_as c.put_cell-c.ensures (ap cell c.from-2.ensures)) in
    going_room (coded)

pub bounds-out-e : goal.bounds-out-e
unfolding p_name ascii
bounds-out-e c =
    let begun : (Going (polygon_text c.args.region c.args.code c.args.corners.now c.args.links.now) c.args.out.now c.args.at (drop 0 (polygon_texts c.args.region c.args.code c.args.corners.now c.args.links.now)) c.args.out.now c.args.at) = going_begin _ _ _ (polygon_texts_lem c.args.region c.args.code c.args.corners.now c.args.links.now) c.requires in
    let named : (Going (polygon_text c.args.region c.args.code c.args.corners.now c.args.links.now) c.args.out.now c.args.at (drop 1 (polygon_texts c.args.region c.args.code c.args.corners.now c.args.links.now)) c.put_text-a.new.out c.put_text-a.result) = going_more (begun) c.put_text-a.ensures in
    let placed : (Going (polygon_text c.args.region c.args.code c.args.corners.now c.args.links.now) c.args.out.now c.args.at (drop 2 (polygon_texts c.args.region c.args.code c.args.corners.now c.args.links.now)) c.put_cell-b.new.out c.put_cell-b.result) = going_more (named) (printed_as c.put_cell-b.ensures (ap cell c.from.ensures)) in
    let coded : (Going (polygon_text c.args.region c.args.code c.args.corners.now c.args.links.now) c.args.out.now c.args.at (drop 3 (polygon_texts c.args.region c.args.code c.args.corners.now c.args.links.now)) c.put_cell-c.new.out c.put_cell-c.result) = going_more (placed) (printed_as c.put_cell-c.ensures (ap cell c.from-2.ensures)) in
    let cornered : (Going (polygon_text c.args.region c.args.code c.args.corners.now c.args.links.now) c.args.out.now c.args.at (drop 4 (polygon_texts c.args.region c.args.code c.args.corners.now c.args.links.now)) c.put_cells-e.new.out c.put_cells-e.result) = going_more (coded) c.put_cells-e.ensures in
    going_place (cornered)

pub overflow_add-e : goal.overflow_add-e
unfolding p_name ascii
overflow_add-e c =
    let begun : (Going (polygon_text c.args.region c.args.code c.args.corners.now c.args.links.now) c.args.out.now c.args.at (drop 0 (polygon_texts c.args.region c.args.code c.args.corners.now c.args.links.now)) c.args.out.now c.args.at) = going_begin _ _ _ (polygon_texts_lem c.args.region c.args.code c.args.corners.now c.args.links.now) c.requires in
    let named : (Going (polygon_text c.args.region c.args.code c.args.corners.now c.args.links.now) c.args.out.now c.args.at (drop 1 (polygon_texts c.args.region c.args.code c.args.corners.now c.args.links.now)) c.put_text-a.new.out c.put_text-a.result) = going_more (begun) c.put_text-a.ensures in
    let placed : (Going (polygon_text c.args.region c.args.code c.args.corners.now c.args.links.now) c.args.out.now c.args.at (drop 2 (polygon_texts c.args.region c.args.code c.args.corners.now c.args.links.now)) c.put_cell-b.new.out c.put_cell-b.result) = going_more (named) (printed_as c.put_cell-b.ensures (ap cell c.from.ensures)) in
    let coded : (Going (polygon_text c.args.region c.args.code c.args.corners.now c.args.links.now) c.args.out.now c.args.at (drop 3 (polygon_texts c.args.region c.args.code c.args.corners.now c.args.links.now)) c.put_cell-c.new.out c.put_cell-c.result) = going_more (placed) (printed_as c.put_cell-c.ensures (ap cell c.from-2.ensures)) in
    let cornered : (Going (polygon_text c.args.region c.args.code c.args.corners.now c.args.links.now) c.args.out.now c.args.at (drop 4 (polygon_texts c.args.region c.args.code c.args.corners.now c.args.links.now)) c.put_cells-e.new.out c.put_cells-e.result) = going_more (coded) c.put_cells-e.ensures in
    omega (arith, going_place (cornered))

pub put_line-requires : goal.put_line-requires
unfolding n_name ascii p_name
put_line-requires c =
    let begun : (Going (polygon_text c.args.region c.args.code c.args.corners.now c.args.links.now) c.args.out.now c.args.at (drop 0 (polygon_texts c.args.region c.args.code c.args.corners.now c.args.links.now)) c.args.out.now c.args.at) = going_begin _ _ _ (polygon_texts_lem c.args.region c.args.code c.args.corners.now c.args.links.now) c.requires in
    let named : (Going (polygon_text c.args.region c.args.code c.args.corners.now c.args.links.now) c.args.out.now c.args.at (drop 1 (polygon_texts c.args.region c.args.code c.args.corners.now c.args.links.now)) c.put_text-a.new.out c.put_text-a.result) = going_more (begun) c.put_text-a.ensures in
    let placed : (Going (polygon_text c.args.region c.args.code c.args.corners.now c.args.links.now) c.args.out.now c.args.at (drop 2 (polygon_texts c.args.region c.args.code c.args.corners.now c.args.links.now)) c.put_cell-b.new.out c.put_cell-b.result) = going_more (named) (printed_as c.put_cell-b.ensures (ap cell c.from.ensures)) in
    let coded : (Going (polygon_text c.args.region c.args.code c.args.corners.now c.args.links.now) c.args.out.now c.args.at (drop 3 (polygon_texts c.args.region c.args.code c.args.corners.now c.args.links.now)) c.put_cell-c.new.out c.put_cell-c.result) = going_more (placed) (printed_as c.put_cell-c.ensures (ap cell c.from-2.ensures)) in
    let cornered : (Going (polygon_text c.args.region c.args.code c.args.corners.now c.args.links.now) c.args.out.now c.args.at (drop 4 (polygon_texts c.args.region c.args.code c.args.corners.now c.args.links.now)) c.put_cells-e.new.out c.put_cells-e.result) = going_more (coded) c.put_cells-e.ensures in
    room_as _ _ (line_of_numbers n_name _) (going_room (going_byte cornered))

pub returns : goal.returns
unfolding n_name ascii p_name
returns c =
    let begun : (Going (polygon_text c.args.region c.args.code c.args.corners.now c.args.links.now) c.args.out.now c.args.at (drop 0 (polygon_texts c.args.region c.args.code c.args.corners.now c.args.links.now)) c.args.out.now c.args.at) = going_begin _ _ _ (polygon_texts_lem c.args.region c.args.code c.args.corners.now c.args.links.now) c.requires in
    let named : (Going (polygon_text c.args.region c.args.code c.args.corners.now c.args.links.now) c.args.out.now c.args.at (drop 1 (polygon_texts c.args.region c.args.code c.args.corners.now c.args.links.now)) c.put_text-a.new.out c.put_text-a.result) = going_more (begun) c.put_text-a.ensures in
    let placed : (Going (polygon_text c.args.region c.args.code c.args.corners.now c.args.links.now) c.args.out.now c.args.at (drop 2 (polygon_texts c.args.region c.args.code c.args.corners.now c.args.links.now)) c.put_cell-b.new.out c.put_cell-b.result) = going_more (named) (printed_as c.put_cell-b.ensures (ap cell c.from.ensures)) in
    let coded : (Going (polygon_text c.args.region c.args.code c.args.corners.now c.args.links.now) c.args.out.now c.args.at (drop 3 (polygon_texts c.args.region c.args.code c.args.corners.now c.args.links.now)) c.put_cell-c.new.out c.put_cell-c.result) = going_more (placed) (printed_as c.put_cell-c.ensures (ap cell c.from-2.ensures)) in
    let cornered : (Going (polygon_text c.args.region c.args.code c.args.corners.now c.args.links.now) c.args.out.now c.args.at (drop 4 (polygon_texts c.args.region c.args.code c.args.corners.now c.args.links.now)) c.put_cells-e.new.out c.put_cells-e.result) = going_more (coded) c.put_cells-e.ensures in
    going_end (going_more (going_byte (cornered)) (printed_as c.put_line.ensures (line_of_numbers n_name _)))

pub shape_of-out : goal.shape_of-out
shape_of-out c = printed_same_length (returns c)
