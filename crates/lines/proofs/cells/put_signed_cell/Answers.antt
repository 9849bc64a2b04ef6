-- `lines::cells::put_signed_cell` meets its contract: the tab, and the number behind it. Assumes nothing.
use native.Mathlib.Omega.{arith}
use mir.Facts.{to_z-of_z}
use Rattle.rules.specs.Lines.{signed, signed_cell}
use Rattle.lines.specs.Printing.{printed_one, printed_then, printed_same_length, room_then}
use Rattle.lines.proofs.cells.put_signed_cell.Goals as goal

pub bounds-out-at : goal.bounds-out-at
unfolding signed_cell
bounds-out-at c = omega arith

pub put_signed-requires : goal.put_signed-requires
unfolding signed_cell
put_signed-requires c = rw (to_z-of_z c.ranges.z) (room_then (printed_one c.args.out.now _ 9) (signed c.args.z) c.requires)

pub returns : goal.returns
unfolding signed_cell
returns c = printed_then (printed_one _ _ 9) (rw (to_z-of_z c.ranges.z) at c.put_signed.ensures)

pub shape_of-out : goal.shape_of-out
shape_of-out c = printed_same_length (returns c)
