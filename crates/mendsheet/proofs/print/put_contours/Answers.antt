use native.Mathlib.Omega.{arith}
use borrow.Author.Rules.{rules}
use Rattle.rules.specs.Lines.{ascii}
use Rattle.rules.specs.Sheet.{contour_name}
use Rattle.lines.specs.Printing.{room_as, printed_as}
use Rattle.sheet.specs.Rows.{line_of_numbers}
use Rattle.mendsheet.proofs.SheetTexts.{contours_begin, contours_all, contour_there, line_room, points_ready, contours_more}
use Rattle.mendsheet.proofs.print.put_contours.Goals as goal

pub loop-c-init : goal.loop-c-init
loop-c-init c =
    contours_begin c.args.lengths.now c.args.regions.now c.args.codes.now c.args.numbers.now c.requires

pub overflow_cast-end : goal.overflow_cast-end
overflow_cast-end c = omega (arith, c.shared_slice_known-in-loop-c-4-1.given c.loop-c.c)

pub overflow_add-end : goal.overflow_add-end
overflow_add-end c =
    let p = c.requires.stand.there in
    let t = contour_there c.loop-c.invariant c.loop-c-test.true in
    search rules

pub put_line-to-requires : goal.put_line-to-requires
unfolding contour_name ascii
put_line-to-requires c =
    room_as _ _ (line_of_numbers contour_name _) (line_room c.loop-c.invariant c.loop-c-test.true)

pub put_points-to-requires : goal.put_points-to-requires
unfolding contour_name ascii
put_points-to-requires c =
    points_ready c.loop-c.invariant c.loop-c-test.true
    (printed_as c.put_line-to.ensures (line_of_numbers contour_name _)) c.requires.stand.there

pub loop-c-preserved : goal.loop-c-preserved
unfolding contour_name ascii
loop-c-preserved c =
    contours_more c.loop-c.invariant c.loop-c-test.true (printed_as c.put_line-to.ensures (line_of_numbers contour_name _)) c.put_points-to.ensures

pub returns : goal.returns
returns c = contours_all c.loop-c.invariant c.loop-c-test.false
