-- `sheet::rows::put_mesh_line` meets its contract: the name, the two counts, the area and the LF are printed one behind the other. Assumes nothing.
use native.Mathlib.Omega.{arith}
use lib.ListN.{drop}
use mir.Facts.{to_z-of_z}
use Rattle.rules.specs.Lines.{ascii}
use Rattle.rules.specs.Sheet.{mesh_name}
use Rattle.lines.specs.Pieces.{Going, going_begin, going_room, going_more, going_place, going_byte, going_end}
use Rattle.lines.specs.Printing.{printed_same_length}
use Rattle.sheet.specs.Rows.{mesh_line_of}
use Rattle.sheet.proofs.LineTexts.{mesh_texts, mesh_texts_lem}
use Rattle.sheet.proofs.rows.put_mesh_line.Goals as goal

pub put_text-a-requires : goal.put_text-a-requires
unfolding mesh_name ascii
put_text-a-requires c =
    let begun : (Going (mesh_line_of c.args.k c.args.n c.args.area) c.args.out.now c.args.at (drop 0 (mesh_texts c.args.k c.args.n c.args.area)) c.args.out.now c.args.at) = going_begin _ _ _ (mesh_texts_lem c.args.k c.args.n c.args.area) c.requires in
    going_room (begun)

pub put_cell-b-requires : goal.put_cell-b-requires
unfolding mesh_name ascii
put_cell-b-requires c =
    let begun : (Going (mesh_line_of c.args.k c.args.n c.args.area) c.args.out.now c.args.at (drop 0 (mesh_texts c.args.k c.args.n c.args.area)) c.args.out.now c.args.at) = going_begin _ _ _ (mesh_texts_lem c.args.k c.args.n c.args.area) c.requires in
    let named : (Going (mesh_line_of c.args.k c.args.n c.args.area) c.args.out.now c.args.at (drop 1 (mesh_texts c.args.k c.args.n c.args.area)) c.put_text-a.new.out c.put_text-a.result) = going_more (begun) c.put_text-a.ensures in
    going_room (named)

pub put_cell-c-requires : goal.put_cell-c-requires
unfolding mesh_name ascii
put_cell-c-requires c =
    let begun : (Going (mesh_line_of c.args.k c.args.n c.args.area) c.args.out.now c.args.at (drop 0 (mesh_texts c.args.k c.args.n c.args.area)) c.args.out.now c.args.at) = going_begin _ _ _ (mesh_texts_lem c.args.k c.args.n c.args.area) c.requires in
    let named : (Going (mesh_line_of c.args.k c.args.n c.args.area) c.args.out.now c.args.at (drop 1 (mesh_texts c.args.k c.args.n c.args.area)) c.put_text-a.new.out c.put_text-a.result) = going_more (begun) c.put_text-a.ensures in
    let vertices : (Going (mesh_line_of c.args.k c.args.n c.args.area) c.args.out.now c.args.at (drop 2 (mesh_texts c.args.k c.args.n c.args.area)) c.put_cell-b.new.out c.put_cell-b.result) = going_more (named) c.put_cell-b.ensures in
    going_room (vertices)

pub put_signed_cell-e-requires : goal.put_signed_cell-e-requires
unfolding mesh_name ascii
put_signed_cell-e-requires c =
    let begun : (Going (mesh_line_of c.args.k c.args.n c.args.area) c.args.out.now c.args.at (drop 0 (mesh_texts c.args.k c.args.n c.args.area)) c.args.out.now c.args.at) = going_begin _ _ _ (mesh_texts_lem c.args.k c.args.n c.args.area) c.requires in
    let named : (Going (mesh_line_of c.args.k c.args.n c.args.area) c.args.out.now c.args.at (drop 1 (mesh_texts c.args.k c.args.n c.args.area)) c.put_text-a.new.out c.put_text-a.result) = going_more (begun) c.put_text-a.ensures in
    let vertices : (Going (mesh_line_of c.args.k c.args.n c.args.area) c.args.out.now c.args.at (drop 2 (mesh_texts c.args.k c.args.n c.args.area)) c.put_cell-b.new.out c.put_cell-b.result) = going_more (named) c.put_cell-b.ensures in
    let polygons : (Going (mesh_line_of c.args.k c.args.n c.args.area) c.args.out.now c.args.at (drop 3 (mesh_texts c.args.k c.args.n c.args.area)) c.put_cell-c.new.out c.put_cell-c.result) = going_more (vertices) c.put_cell-c.ensures in
    rw (to_z-of_z c.ranges.area) (going_room (polygons))

pub bounds-out-e : goal.bounds-out-e
unfolding mesh_name ascii
bounds-out-e c =
    let begun : (Going (mesh_line_of c.args.k c.args.n c.args.area) c.args.out.now c.args.at (drop 0 (mesh_texts c.args.k c.args.n c.args.area)) c.args.out.now c.args.at) = going_begin _ _ _ (mesh_texts_lem c.args.k c.args.n c.args.area) c.requires in
    let named : (Going (mesh_line_of c.args.k c.args.n c.args.area) c.args.out.now c.args.at (drop 1 (mesh_texts c.args.k c.args.n c.args.area)) c.put_text-a.new.out c.put_text-a.result) = going_more (begun) c.put_text-a.ensures in
    let vertices : (Going (mesh_line_of c.args.k c.args.n c.args.area) c.args.out.now c.args.at (drop 2 (mesh_texts c.args.k c.args.n c.args.area)) c.put_cell-b.new.out c.put_cell-b.result) = going_more (named) c.put_cell-b.ensures in
    let polygons : (Going (mesh_line_of c.args.k c.args.n c.args.area) c.args.out.now c.args.at (drop 3 (mesh_texts c.args.k c.args.n c.args.area)) c.put_cell-c.new.out c.put_cell-c.result) = going_more (vertices) c.put_cell-c.ensures in
    let sized : (Going (mesh_line_of c.args.k c.args.n c.args.area) c.args.out.now c.args.at (drop 4 (mesh_texts c.args.k c.args.n c.args.area)) c.put_signed_cell-e.new.out c.put_signed_cell-e.result) = going_more (polygons) (rw (to_z-of_z c.ranges.area) at c.put_signed_cell-e.ensures) in
    going_place (sized)

pub overflow_add-result : goal.overflow_add-result
unfolding mesh_name ascii
overflow_add-result c =
    let begun : (Going (mesh_line_of c.args.k c.args.n c.args.area) c.args.out.now c.args.at (drop 0 (mesh_texts c.args.k c.args.n c.args.area)) c.args.out.now c.args.at) = going_begin _ _ _ (mesh_texts_lem c.args.k c.args.n c.args.area) c.requires in
    let named : (Going (mesh_line_of c.args.k c.args.n c.args.area) c.args.out.now c.args.at (drop 1 (mesh_texts c.args.k c.args.n c.args.area)) c.put_text-a.new.out c.put_text-a.result) = going_more (begun) c.put_text-a.ensures in
    let vertices : (Going (mesh_line_of c.args.k c.args.n c.args.area) c.args.out.now c.args.at (drop 2 (mesh_texts c.args.k c.args.n c.args.area)) c.put_cell-b.new.out c.put_cell-b.result) = going_more (named) c.put_cell-b.ensures in
    let polygons : (Going (mesh_line_of c.args.k c.args.n c.args.area) c.args.out.now c.args.at (drop 3 (mesh_texts c.args.k c.args.n c.args.area)) c.put_cell-c.new.out c.put_cell-c.result) = going_more (vertices) c.put_cell-c.ensures in
    let sized : (Going (mesh_line_of c.args.k c.args.n c.args.area) c.args.out.now c.args.at (drop 4 (mesh_texts c.args.k c.args.n c.args.area)) c.put_signed_cell-e.new.out c.put_signed_cell-e.result) = going_more (polygons) (rw (to_z-of_z c.ranges.area) at c.put_signed_cell-e.ensures) in
    omega (arith, going_place (sized))

pub returns : goal.returns
unfolding mesh_name ascii
returns c =
    let begun : (Going (mesh_line_of c.args.k c.args.n c.args.area) c.args.out.now c.args.at (drop 0 (mesh_texts c.args.k c.args.n c.args.area)) c.args.out.now c.args.at) = going_begin _ _ _ (mesh_texts_lem c.args.k c.args.n c.args.area) c.requires in
    let named : (Going (mesh_line_of c.args.k c.args.n c.args.area) c.args.out.now c.args.at (drop 1 (mesh_texts c.args.k c.args.n c.args.area)) c.put_text-a.new.out c.put_text-a.result) = going_more (begun) c.put_text-a.ensures in
    let vertices : (Going (mesh_line_of c.args.k c.args.n c.args.area) c.args.out.now c.args.at (drop 2 (mesh_texts c.args.k c.args.n c.args.area)) c.put_cell-b.new.out c.put_cell-b.result) = going_more (named) c.put_cell-b.ensures in
    let polygons : (Going (mesh_line_of c.args.k c.args.n c.args.area) c.args.out.now c.args.at (drop 3 (mesh_texts c.args.k c.args.n c.args.area)) c.put_cell-c.new.out c.put_cell-c.result) = going_more (vertices) c.put_cell-c.ensures in
    let sized : (Going (mesh_line_of c.args.k c.args.n c.args.area) c.args.out.now c.args.at (drop 4 (mesh_texts c.args.k c.args.n c.args.area)) c.put_signed_cell-e.new.out c.put_signed_cell-e.result) = going_more (polygons) (rw (to_z-of_z c.ranges.area) at c.put_signed_cell-e.ensures) in
    going_end (going_byte (sized))

pub shape_of-out : goal.shape_of-out
shape_of-out c = printed_same_length (returns c)
