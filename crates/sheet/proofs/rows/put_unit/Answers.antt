-- `sheet::rows::put_unit` meets its contract: the word `unit`, a tab, the unit and the LF are printed one behind the other. Assumes nothing.
use native.Mathlib.Omega.{arith}
use lib.ListN.{drop}
use Rattle.rules.specs.Lines.{ascii}
use Rattle.rules.specs.Sheet.{unit_name, unit_line}
use Rattle.lines.specs.Pieces.{Going, going_begin, going_length, going_room, going_more, going_place, going_byte, going_end}
use Rattle.lines.specs.Printing.{printed_same_length}
use Rattle.sheet.proofs.LineTexts.{unit_texts, unit_texts_lem}
use Rattle.sheet.proofs.rows.put_unit.Goals as goal

pub put_text-a-requires : goal.put_text-a-requires
unfolding unit_name ascii
put_text-a-requires c =
    let begun : (Going (unit_line c.args.inches) c.args.out.now 0 (drop 0 (unit_texts c.args.inches)) c.args.out.now 0) = going_begin _ _ _ (unit_texts_lem c.args.inches) c.requires in
    going_room (begun)

pub bounds-out-a : goal.bounds-out-a
unfolding unit_name ascii
bounds-out-a c =
    let begun : (Going (unit_line c.args.inches) c.args.out.now 0 (drop 0 (unit_texts c.args.inches)) c.args.out.now 0) = going_begin _ _ _ (unit_texts_lem c.args.inches) c.requires in
    let named : (Going (unit_line c.args.inches) c.args.out.now 0 (drop 1 (unit_texts c.args.inches)) c.put_text-a.new.out c.put_text-a.result) = going_more (begun) c.put_text-a.ensures in
    going_place (named)

pub overflow_add-a : goal.overflow_add-a
unfolding unit_name ascii
overflow_add-a c =
    let begun : (Going (unit_line c.args.inches) c.args.out.now 0 (drop 0 (unit_texts c.args.inches)) c.args.out.now 0) = going_begin _ _ _ (unit_texts_lem c.args.inches) c.requires in
    let named : (Going (unit_line c.args.inches) c.args.out.now 0 (drop 1 (unit_texts c.args.inches)) c.put_text-a.new.out c.put_text-a.result) = going_more (begun) c.put_text-a.ensures in
    omega (arith, going_place (named))

pub put_unit_name-e-requires : goal.put_unit_name-e-requires
unfolding unit_name ascii
put_unit_name-e-requires c =
    let begun : (Going (unit_line c.args.inches) c.args.out.now 0 (drop 0 (unit_texts c.args.inches)) c.args.out.now 0) = going_begin _ _ _ (unit_texts_lem c.args.inches) c.requires in
    let named : (Going (unit_line c.args.inches) c.args.out.now 0 (drop 1 (unit_texts c.args.inches)) c.put_text-a.new.out c.put_text-a.result) = going_more (begun) c.put_text-a.ensures in
    going_room (going_byte (named))

pub bounds-out-e : goal.bounds-out-e
unfolding unit_name ascii
bounds-out-e c =
    let begun : (Going (unit_line c.args.inches) c.args.out.now 0 (drop 0 (unit_texts c.args.inches)) c.args.out.now 0) = going_begin _ _ _ (unit_texts_lem c.args.inches) c.requires in
    let named : (Going (unit_line c.args.inches) c.args.out.now 0 (drop 1 (unit_texts c.args.inches)) c.put_text-a.new.out c.put_text-a.result) = going_more (begun) c.put_text-a.ensures in
    let said : (Going (unit_line c.args.inches) c.args.out.now 0 (drop 3 (unit_texts c.args.inches)) c.put_unit_name-e.new.out c.put_unit_name-e.result) = going_more (going_byte (named)) c.put_unit_name-e.ensures in
    going_place (said)

pub overflow_add-result : goal.overflow_add-result
unfolding unit_name ascii
overflow_add-result c =
    let begun : (Going (unit_line c.args.inches) c.args.out.now 0 (drop 0 (unit_texts c.args.inches)) c.args.out.now 0) = going_begin _ _ _ (unit_texts_lem c.args.inches) c.requires in
    let named : (Going (unit_line c.args.inches) c.args.out.now 0 (drop 1 (unit_texts c.args.inches)) c.put_text-a.new.out c.put_text-a.result) = going_more (begun) c.put_text-a.ensures in
    let said : (Going (unit_line c.args.inches) c.args.out.now 0 (drop 3 (unit_texts c.args.inches)) c.put_unit_name-e.new.out c.put_unit_name-e.result) = going_more (going_byte (named)) c.put_unit_name-e.ensures in
    omega (arith, going_place (said), going_length (said))

pub returns : goal.returns
unfolding unit_name ascii
returns c =
    let begun : (Going (unit_line c.args.inches) c.args.out.now 0 (drop 0 (unit_texts c.args.inches)) c.args.out.now 0) = going_begin _ _ _ (unit_texts_lem c.args.inches) c.requires in
    let named : (Going (unit_line c.args.inches) c.args.out.now 0 (drop 1 (unit_texts c.args.inches)) c.put_text-a.new.out c.put_text-a.result) = going_more (begun) c.put_text-a.ensures in
    let said : (Going (unit_line c.args.inches) c.args.out.now 0 (drop 3 (unit_texts c.args.inches)) c.put_unit_name-e.new.out c.put_unit_name-e.result) = going_more (going_byte (named)) c.put_unit_name-e.ensures in
    going_end (going_byte (said))

pub shape_of-out : goal.shape_of-out
shape_of-out c = printed_same_length (returns c)
