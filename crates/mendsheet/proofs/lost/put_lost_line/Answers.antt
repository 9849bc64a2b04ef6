-- `mendsheet::lost::put_lost_line` meets its contract: the name, the two numbers and the LF are printed one behind the other. Assumes nothing.
use mathlib.Core.Path.{◌≡◌}
use Prim.Native.Nat.{◌+◌}
use native.Mathlib.Omega.{arith}
use lib.ListN.{drop}
use Rattle.rules.specs.Lines.{ascii}
use Rattle.rules.specs.MendSheet.{vertex_line_of, lost_name, lost_line}
use Rattle.lines.specs.Pieces.{Going, going_begin, going_room, going_more, going_place, going_byte, going_end}
use Rattle.lines.specs.Printing.{printed_same_length}
use Rattle.mendsheet.proofs.Above.{lost_texts, lost_texts_lem}
use Rattle.mendsheet.proofs.lost.put_lost_line.Goals as goal

pub put_text-a-requires : goal.put_text-a-requires
unfolding lost_name ascii vertex_line_of
put_text-a-requires c =
    let line_is : (4 + c.contours_above-above.result + c.args.k + 1) ≡ vertex_line_of c.args.lengths.now c.args.k = omega (arith, c.contours_above-above.ensures.0) in
    let begun : (let a = c.args in
    Going (lost_line a.lengths.now a.k) a.out.now a.at (drop 0 (lost_texts a.k ((4 + c.contours_above-above.result + c.args.k + 1)))) c.args.out.now c.args.at) = going_begin _ _ _ (lost_texts_lem c.args.lengths.now c.args.k ((4 + c.contours_above-above.result + c.args.k + 1)) (line_is)) c.requires.room in
    going_room (begun)

pub put_cell-b-requires : goal.put_cell-b-requires
unfolding vertex_line_of lost_name ascii
put_cell-b-requires c =
    let line_is : (4 + c.contours_above-above.result + c.args.k + 1) ≡ vertex_line_of c.args.lengths.now c.args.k = omega (arith, c.contours_above-above.ensures.0) in
    let begun : (let a = c.args in
    Going (lost_line a.lengths.now a.k) a.out.now a.at (drop 0 (lost_texts a.k ((4 + c.contours_above-above.result + c.args.k + 1)))) c.args.out.now c.args.at) = going_begin _ _ _ (lost_texts_lem c.args.lengths.now c.args.k ((4 + c.contours_above-above.result + c.args.k + 1)) (line_is)) c.requires.room in
    let named : (let a = c.args in
    Going (lost_line a.lengths.now a.k) a.out.now a.at (drop 1 (lost_texts a.k ((4 + c.contours_above-above.result + c.args.k + 1)))) c.put_text-a.new.out c.put_text-a.result) = going_more (begun) c.put_text-a.ensures in
    going_room (named)

pub put_cell-e-requires : goal.put_cell-e-requires
unfolding vertex_line_of lost_name ascii
put_cell-e-requires c =
    let line_is : (4 + c.contours_above-above.result + c.args.k + 1) ≡ vertex_line_of c.args.lengths.now c.args.k = omega (arith, c.contours_above-above.ensures.0) in
    let begun : (let a = c.args in
    Going (lost_line a.lengths.now a.k) a.out.now a.at (drop 0 (lost_texts a.k ((4 + c.contours_above-above.result + c.args.k + 1)))) c.args.out.now c.args.at) = going_begin _ _ _ (lost_texts_lem c.args.lengths.now c.args.k ((4 + c.contours_above-above.result + c.args.k + 1)) (line_is)) c.requires.room in
    let named : (let a = c.args in
    Going (lost_line a.lengths.now a.k) a.out.now a.at (drop 1 (lost_texts a.k ((4 + c.contours_above-above.result + c.args.k + 1)))) c.put_text-a.new.out c.put_text-a.result) = going_more (begun) c.put_text-a.ensures in
    let numbered : (let a = c.args in
    Going (lost_line a.lengths.now a.k) a.out.now a.at (drop 2 (lost_texts a.k ((4 + c.contours_above-above.result + c.args.k + 1)))) c.put_cell-b.new.out c.put_cell-b.result) = going_more (named) c.put_cell-b.ensures in
    going_room (numbered)

pub bounds-out-e : goal.bounds-out-e
unfolding vertex_line_of lost_name ascii
bounds-out-e c =
    let line_is : (4 + c.contours_above-above.result + c.args.k + 1) ≡ vertex_line_of c.args.lengths.now c.args.k = omega (arith, c.contours_above-above.ensures.0) in
    let begun : (let a = c.args in
    Going (lost_line a.lengths.now a.k) a.out.now a.at (drop 0 (lost_texts a.k ((4 + c.contours_above-above.result + c.args.k + 1)))) c.args.out.now c.args.at) = going_begin _ _ _ (lost_texts_lem c.args.lengths.now c.args.k ((4 + c.contours_above-above.result + c.args.k + 1)) (line_is)) c.requires.room in
    let named : (let a = c.args in
    Going (lost_line a.lengths.now a.k) a.out.now a.at (drop 1 (lost_texts a.k ((4 + c.contours_above-above.result + c.args.k + 1)))) c.put_text-a.new.out c.put_text-a.result) = going_more (begun) c.put_text-a.ensures in
    let numbered : (let a = c.args in
    Going (lost_line a.lengths.now a.k) a.out.now a.at (drop 2 (lost_texts a.k ((4 + c.contours_above-above.result + c.args.k + 1)))) c.put_cell-b.new.out c.put_cell-b.result) = going_more (named) c.put_cell-b.ensures in
    let told : (let a = c.args in
    Going (lost_line a.lengths.now a.k) a.out.now a.at (drop 3 (lost_texts a.k ((4 + c.contours_above-above.result + c.args.k + 1)))) c.put_cell-e.new.out c.put_cell-e.result) = going_more (numbered) c.put_cell-e.ensures in
    going_place (told)

pub overflow_add-result : goal.overflow_add-result
unfolding vertex_line_of lost_name ascii
overflow_add-result c =
    let line_is : (4 + c.contours_above-above.result + c.args.k + 1) ≡ vertex_line_of c.args.lengths.now c.args.k = omega (arith, c.contours_above-above.ensures.0) in
    let begun : (let a = c.args in
    Going (lost_line a.lengths.now a.k) a.out.now a.at (drop 0 (lost_texts a.k ((4 + c.contours_above-above.result + c.args.k + 1)))) c.args.out.now c.args.at) = going_begin _ _ _ (lost_texts_lem c.args.lengths.now c.args.k ((4 + c.contours_above-above.result + c.args.k + 1)) (line_is)) c.requires.room in
    let named : (let a = c.args in
    Going (lost_line a.lengths.now a.k) a.out.now a.at (drop 1 (lost_texts a.k ((4 + c.contours_above-above.result + c.args.k + 1)))) c.put_text-a.new.out c.put_text-a.result) = going_more (begun) c.put_text-a.ensures in
    let numbered : (let a = c.args in
    Going (lost_line a.lengths.now a.k) a.out.now a.at (drop 2 (lost_texts a.k ((4 + c.contours_above-above.result + c.args.k + 1)))) c.put_cell-b.new.out c.put_cell-b.result) = going_more (named) c.put_cell-b.ensures in
    let told : (let a = c.args in
    Going (lost_line a.lengths.now a.k) a.out.now a.at (drop 3 (lost_texts a.k ((4 + c.contours_above-above.result + c.args.k + 1)))) c.put_cell-e.new.out c.put_cell-e.result) = going_more (numbered) c.put_cell-e.ensures in
    omega (arith, going_place (told))

pub returns : goal.returns
unfolding vertex_line_of lost_name ascii
returns c =
    let line_is : (4 + c.contours_above-above.result + c.args.k + 1) ≡ vertex_line_of c.args.lengths.now c.args.k = omega (arith, c.contours_above-above.ensures.0) in
    let begun : (let a = c.args in
    Going (lost_line a.lengths.now a.k) a.out.now a.at (drop 0 (lost_texts a.k ((4 + c.contours_above-above.result + c.args.k + 1)))) c.args.out.now c.args.at) = going_begin _ _ _ (lost_texts_lem c.args.lengths.now c.args.k ((4 + c.contours_above-above.result + c.args.k + 1)) (line_is)) c.requires.room in
    let named : (let a = c.args in
    Going (lost_line a.lengths.now a.k) a.out.now a.at (drop 1 (lost_texts a.k ((4 + c.contours_above-above.result + c.args.k + 1)))) c.put_text-a.new.out c.put_text-a.result) = going_more (begun) c.put_text-a.ensures in
    let numbered : (let a = c.args in
    Going (lost_line a.lengths.now a.k) a.out.now a.at (drop 2 (lost_texts a.k ((4 + c.contours_above-above.result + c.args.k + 1)))) c.put_cell-b.new.out c.put_cell-b.result) = going_more (named) c.put_cell-b.ensures in
    let told : (let a = c.args in
    Going (lost_line a.lengths.now a.k) a.out.now a.at (drop 3 (lost_texts a.k ((4 + c.contours_above-above.result + c.args.k + 1)))) c.put_cell-e.new.out c.put_cell-e.result) = going_more (numbered) c.put_cell-e.ensures in
    going_end (going_byte (told))

pub shape_of-out : goal.shape_of-out
shape_of-out c = printed_same_length (returns c)
