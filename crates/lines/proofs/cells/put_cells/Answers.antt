use mathlib.Core.Path.{ap}
use Rattle.rules.specs.Lines.{cell}
use Rattle.lines.specs.Printing.{printed_as, room_as}
use Rattle.lines.proofs.CellLoop.{left_begin, left_room, left_more, left_end}
use Rattle.lines.proofs.cells.put_cells.Goals as goal

pub loop-n-init : goal.loop-n-init
loop-n-init g c = left_begin _ _ _ _ c.requires

pub put_cell-to-requires : goal.put_cell-to-requires
put_cell-to-requires g c = room_as _ _ (ap cell c.word.ensures) (left_room _ _ _ _ c.loop-n.invariant c.n-item.is c.loop-n-test.true)

pub loop-n-preserved : goal.loop-n-preserved
loop-n-preserved g c =
    left_more _ _ _ _ c.loop-n.invariant c.n-item.is c.loop-n-test.true (printed_as c.put_cell-to.ensures (ap cell c.word.ensures))

pub returns : goal.returns
returns g c = left_end _ _ _ _ c.loop-n.invariant c.loop-n-test.false
