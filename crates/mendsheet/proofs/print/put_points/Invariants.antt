-- `mendsheet::print::put_points` meets its contract: the loop prints the lines one behind the other, line k of the four words of vertex k. Assumes nothing.
use Rattle.rules.specs.MendSheet.{traced_line}
use Rattle.lines.specs.Pieces.{texts_from, Pieces}
use Rattle.mendsheet.proofs.print.put_points.Given as goal

abbrev pub invariant-loop-k : goal.invariant-loop-k
invariant-loop-k l = Pieces (traced_line l.numbers) l.end (texts_from (traced_line l.numbers) l.first l.end) l.initial.out l.at l.out l.to l.k
