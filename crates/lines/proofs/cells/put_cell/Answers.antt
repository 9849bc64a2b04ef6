-- `lines::cells::put_cell` meets its contract: the tab, and the number behind it. Assumes nothing.
use native.Mathlib.Omega.{arith}
use lib.ListN.{length-set}
use Rattle.rules.specs.Lines.{cell}
use Rattle.lines.specs.Printing.{printed_one, printed_then, printed_same_length}
use Rattle.lines.proofs.cells.put_cell.Goals as goal

pub bounds-out-at : goal.bounds-out-at
unfolding cell
bounds-out-at c = omega arith

pub put_decimal-requires : goal.put_decimal-requires
unfolding cell
put_decimal-requires c = omega (arith, length-set c.args.out.now c.args.at 9, c.requires)

pub returns : goal.returns
unfolding cell
returns c = printed_then (printed_one _ _ 9) c.put_decimal.ensures

pub shape_of-out : goal.shape_of-out
shape_of-out c = printed_same_length (returns c)
