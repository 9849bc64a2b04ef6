-- `sheet::rows::put_line` meets its contract: the name, the cells and the LF are printed one behind the other. Assumes nothing.
use native.Mathlib.Omega.{arith}
use lib.ListN.{drop}
use Rattle.sheet.specs.Rows.{line_of_values}
use Rattle.lines.specs.Pieces.{Going, going_begin, going_room, going_more, going_place, going_byte, going_end}
use Rattle.lines.specs.Printing.{printed_same_length}
use Rattle.sheet.proofs.LineTexts.{line_texts, line_texts_lem}
use Rattle.sheet.proofs.rows.put_line.Goals as goal

pub put_text-a-requires : goal.put_text-a-requires
put_text-a-requires g c =
    let begun : (Going (line_of_values g.T.Number.says c.args.name.now c.args.ns.now) c.args.out.now c.args.at (drop 0 (line_texts g.T.Number.says c.args.name.now c.args.ns.now)) c.args.out.now c.args.at) = going_begin _ _ _ (line_texts_lem g.T.Number.says c.args.name.now c.args.ns.now) c.requires in
    going_room (begun)

pub put_cells-e-requires : goal.put_cells-e-requires
put_cells-e-requires g c =
    let begun : (Going (line_of_values g.T.Number.says c.args.name.now c.args.ns.now) c.args.out.now c.args.at (drop 0 (line_texts g.T.Number.says c.args.name.now c.args.ns.now)) c.args.out.now c.args.at) = going_begin _ _ _ (line_texts_lem g.T.Number.says c.args.name.now c.args.ns.now) c.requires in
    let named : (Going (line_of_values g.T.Number.says c.args.name.now c.args.ns.now) c.args.out.now c.args.at (drop 1 (line_texts g.T.Number.says c.args.name.now c.args.ns.now)) c.put_text-a.new.out c.put_text-a.result) = going_more (begun) c.put_text-a.ensures in
    going_room (named)

pub bounds-out-e : goal.bounds-out-e
bounds-out-e g c =
    let begun : (Going (line_of_values g.T.Number.says c.args.name.now c.args.ns.now) c.args.out.now c.args.at (drop 0 (line_texts g.T.Number.says c.args.name.now c.args.ns.now)) c.args.out.now c.args.at) = going_begin _ _ _ (line_texts_lem g.T.Number.says c.args.name.now c.args.ns.now) c.requires in
    let named : (Going (line_of_values g.T.Number.says c.args.name.now c.args.ns.now) c.args.out.now c.args.at (drop 1 (line_texts g.T.Number.says c.args.name.now c.args.ns.now)) c.put_text-a.new.out c.put_text-a.result) = going_more (begun) c.put_text-a.ensures in
    let numbered : (Going (line_of_values g.T.Number.says c.args.name.now c.args.ns.now) c.args.out.now c.args.at (drop 2 (line_texts g.T.Number.says c.args.name.now c.args.ns.now)) c.put_cells-e.new.out c.put_cells-e.result) = going_more (named) c.put_cells-e.ensures in
    going_place (numbered)

pub overflow_add-result : goal.overflow_add-result
overflow_add-result g c =
    let begun : (Going (line_of_values g.T.Number.says c.args.name.now c.args.ns.now) c.args.out.now c.args.at (drop 0 (line_texts g.T.Number.says c.args.name.now c.args.ns.now)) c.args.out.now c.args.at) = going_begin _ _ _ (line_texts_lem g.T.Number.says c.args.name.now c.args.ns.now) c.requires in
    let named : (Going (line_of_values g.T.Number.says c.args.name.now c.args.ns.now) c.args.out.now c.args.at (drop 1 (line_texts g.T.Number.says c.args.name.now c.args.ns.now)) c.put_text-a.new.out c.put_text-a.result) = going_more (begun) c.put_text-a.ensures in
    let numbered : (Going (line_of_values g.T.Number.says c.args.name.now c.args.ns.now) c.args.out.now c.args.at (drop 2 (line_texts g.T.Number.says c.args.name.now c.args.ns.now)) c.put_cells-e.new.out c.put_cells-e.result) = going_more (named) c.put_cells-e.ensures in
    omega (arith, going_place (numbered))

pub returns : goal.returns
returns g c =
    let begun : (Going (line_of_values g.T.Number.says c.args.name.now c.args.ns.now) c.args.out.now c.args.at (drop 0 (line_texts g.T.Number.says c.args.name.now c.args.ns.now)) c.args.out.now c.args.at) = going_begin _ _ _ (line_texts_lem g.T.Number.says c.args.name.now c.args.ns.now) c.requires in
    let named : (Going (line_of_values g.T.Number.says c.args.name.now c.args.ns.now) c.args.out.now c.args.at (drop 1 (line_texts g.T.Number.says c.args.name.now c.args.ns.now)) c.put_text-a.new.out c.put_text-a.result) = going_more (begun) c.put_text-a.ensures in
    let numbered : (Going (line_of_values g.T.Number.says c.args.name.now c.args.ns.now) c.args.out.now c.args.at (drop 2 (line_texts g.T.Number.says c.args.name.now c.args.ns.now)) c.put_cells-e.new.out c.put_cells-e.result) = going_more (named) c.put_cells-e.ensures in
    going_end (going_byte (numbered))

pub shape_of-out : goal.shape_of-out
shape_of-out g c = printed_same_length (returns g c)
