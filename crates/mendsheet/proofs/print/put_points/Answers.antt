use mathlib.Core.Path.{◌≡◌}
use Prim.Native.Nat.{◌+◌, ◌-◌, ◌*◌}
use native.Mathlib.Omega.{arith}
use Rattle.rules.specs.Lines.{ascii}
use Rattle.rules.specs.Sheet.{v_name}
use Rattle.rules.specs.MendSheet.{traced_line}
use Rattle.lines.specs.Pieces.{pieces_room, pieces_more, pieces_all}
use Rattle.lines.specs.Printing.{room_as, printed_as}
use Rattle.sheet.specs.Rows.{line_of_numbers}
use Rattle.mendsheet.proofs.SheetTexts.{points_begin}
use Rattle.mendsheet.proofs.print.put_points.Goals as goal

pub loop-k-init : goal.loop-k-init
loop-k-init c = points_begin c.requires

pub put_line-to-requires : goal.put_line-to-requires
unfolding v_name ascii traced_line
put_line-to-requires c =
    let e : c.loop-k.k * 4 + 4 - c.loop-k.k * 4 ≡ 4 = omega arith in
    rw e (room_as _ _ (line_of_numbers v_name _) (pieces_room c.loop-k.invariant c.loop-k-test.true))

pub loop-k-preserved : goal.loop-k-preserved
unfolding v_name ascii traced_line
loop-k-preserved c =
    let e : c.loop-k.k * 4 + 4 - c.loop-k.k * 4 ≡ 4 = omega arith in
    pieces_more c.loop-k.invariant c.loop-k-test.true (printed_as (rw e at c.put_line-to.ensures) (line_of_numbers v_name _))

pub returns : goal.returns
returns c = pieces_all c.loop-k.invariant c.loop-k-test.false
