-- `sheet::rows::put_refused` meets its contract: the name, the two numbers and the LF are printed one behind the other. Assumes nothing.
use native.Mathlib.Omega.{arith}
use lib.ListN.{drop}
use Rattle.rules.specs.Lines.{ascii}
use Rattle.rules.specs.Sheet.{refused_name, refused_text}
use Rattle.lines.specs.Pieces.{Going, going_begin, going_room, going_more, going_place, going_byte, going_end}
use Rattle.lines.specs.Printing.{printed_same_length}
use Rattle.sheet.proofs.LineTexts.{refused_texts, refused_texts_lem}
use Rattle.sheet.proofs.rows.put_refused.Goals as goal

pub put_text-a-requires : goal.put_text-a-requires
unfolding refused_name ascii
put_text-a-requires c =
    let begun : (Going (refused_text c.args.number c.args.line) c.args.out.now 0 (drop 0 (refused_texts c.args.number c.args.line)) c.args.out.now 0) = going_begin _ _ _ (refused_texts_lem c.args.number c.args.line) c.requires in
    going_room (begun)

pub put_cell-b-requires : goal.put_cell-b-requires
unfolding refused_name ascii
put_cell-b-requires c =
    let begun : (Going (refused_text c.args.number c.args.line) c.args.out.now 0 (drop 0 (refused_texts c.args.number c.args.line)) c.args.out.now 0) = going_begin _ _ _ (refused_texts_lem c.args.number c.args.line) c.requires in
    let named : (Going (refused_text c.args.number c.args.line) c.args.out.now 0 (drop 1 (refused_texts c.args.number c.args.line)) c.put_text-a.new.out c.put_text-a.result) = going_more (begun) c.put_text-a.ensures in
    going_room (named)

pub put_cell-e-requires : goal.put_cell-e-requires
unfolding refused_name ascii
put_cell-e-requires c =
    let begun : (Going (refused_text c.args.number c.args.line) c.args.out.now 0 (drop 0 (refused_texts c.args.number c.args.line)) c.args.out.now 0) = going_begin _ _ _ (refused_texts_lem c.args.number c.args.line) c.requires in
    let named : (Going (refused_text c.args.number c.args.line) c.args.out.now 0 (drop 1 (refused_texts c.args.number c.args.line)) c.put_text-a.new.out c.put_text-a.result) = going_more (begun) c.put_text-a.ensures in
    let numbered : (Going (refused_text c.args.number c.args.line) c.args.out.now 0 (drop 2 (refused_texts c.args.number c.args.line)) c.put_cell-b.new.out c.put_cell-b.result) = going_more (named) c.put_cell-b.ensures in
    going_room (numbered)

pub bounds-out-e : goal.bounds-out-e
unfolding refused_name ascii
bounds-out-e c =
    let begun : (Going (refused_text c.args.number c.args.line) c.args.out.now 0 (drop 0 (refused_texts c.args.number c.args.line)) c.args.out.now 0) = going_begin _ _ _ (refused_texts_lem c.args.number c.args.line) c.requires in
    let named : (Going (refused_text c.args.number c.args.line) c.args.out.now 0 (drop 1 (refused_texts c.args.number c.args.line)) c.put_text-a.new.out c.put_text-a.result) = going_more (begun) c.put_text-a.ensures in
    let numbered : (Going (refused_text c.args.number c.args.line) c.args.out.now 0 (drop 2 (refused_texts c.args.number c.args.line)) c.put_cell-b.new.out c.put_cell-b.result) = going_more (named) c.put_cell-b.ensures in
    let lined : (Going (refused_text c.args.number c.args.line) c.args.out.now 0 (drop 3 (refused_texts c.args.number c.args.line)) c.put_cell-e.new.out c.put_cell-e.result) = going_more (numbered) c.put_cell-e.ensures in
    going_place (lined)

pub overflow_add-result : goal.overflow_add-result
unfolding refused_name ascii
overflow_add-result c =
    let begun : (Going (refused_text c.args.number c.args.line) c.args.out.now 0 (drop 0 (refused_texts c.args.number c.args.line)) c.args.out.now 0) = going_begin _ _ _ (refused_texts_lem c.args.number c.args.line) c.requires in
    let named : (Going (refused_text c.args.number c.args.line) c.args.out.now 0 (drop 1 (refused_texts c.args.number c.args.line)) c.put_text-a.new.out c.put_text-a.result) = going_more (begun) c.put_text-a.ensures in
    let numbered : (Going (refused_text c.args.number c.args.line) c.args.out.now 0 (drop 2 (refused_texts c.args.number c.args.line)) c.put_cell-b.new.out c.put_cell-b.result) = going_more (named) c.put_cell-b.ensures in
    let lined : (Going (refused_text c.args.number c.args.line) c.args.out.now 0 (drop 3 (refused_texts c.args.number c.args.line)) c.put_cell-e.new.out c.put_cell-e.result) = going_more (numbered) c.put_cell-e.ensures in
    omega (arith, going_place (lined))

pub returns : goal.returns
unfolding refused_name ascii
returns c =
    let begun : (Going (refused_text c.args.number c.args.line) c.args.out.now 0 (drop 0 (refused_texts c.args.number c.args.line)) c.args.out.now 0) = going_begin _ _ _ (refused_texts_lem c.args.number c.args.line) c.requires in
    let named : (Going (refused_text c.args.number c.args.line) c.args.out.now 0 (drop 1 (refused_texts c.args.number c.args.line)) c.put_text-a.new.out c.put_text-a.result) = going_more (begun) c.put_text-a.ensures in
    let numbered : (Going (refused_text c.args.number c.args.line) c.args.out.now 0 (drop 2 (refused_texts c.args.number c.args.line)) c.put_cell-b.new.out c.put_cell-b.result) = going_more (named) c.put_cell-b.ensures in
    let lined : (Going (refused_text c.args.number c.args.line) c.args.out.now 0 (drop 3 (refused_texts c.args.number c.args.line)) c.put_cell-e.new.out c.put_cell-e.result) = going_more (numbered) c.put_cell-e.ensures in
    going_end (going_byte (lined))

pub shape_of-out : goal.shape_of-out
shape_of-out c = printed_same_length (returns c)
