-- `lines::cells::put_cells` meets its contract: the loop prints the cells one behind the other. Assumes nothing.
use Rattle.rules.specs.Lines.{cell}
use Rattle.lines.proofs.CellLoop.{Left}
use Rattle.lines.proofs.cells.put_cells.Given as goal

abbrev pub invariant-loop-n : goal.invariant-loop-n
invariant-loop-n g l = Left (λ n. cell (g.T.Number.says n)) l.ns l.initial.out l.at l.out l.to l.n-index
