-- `lines::numbers::read_row` meets its contract. The loop's invariant is `Numbering`: the numbers are those so far, and then those of the cells that are left.
-- Assumes nothing.
use Rattle.lines.proofs.Numbering.{Numbering}
use Rattle.lines.proofs.numbers.read_row.Given as goal

abbrev pub invariant-loop-i : goal.invariant-loop-i
invariant-loop-i l = Numbering l.line l.name l.least l.mosts l.initial.values l.values l.at l.i
