-- `mendsheet::print::put_contours` meets its contract. The loop's invariant is `Contours`: the contours from c on are left to print. Assumes nothing.
use Rattle.mendsheet.proofs.SheetTexts.{Contours}
use Rattle.mendsheet.proofs.print.put_contours.Given as goal

abbrev pub invariant-loop-c : goal.invariant-loop-c
invariant-loop-c l = Contours l.lengths l.regions l.codes l.numbers l.initial.out l.at l.out l.to l.first l.c
