-- `mend::contours::count_lost` meets its contract: the loop's invariant is `Counting`: what is counted and what the contours that are left lose make the
-- whole. The measure is how many are left. Assumes nothing.
use Rattle.mend.proofs.Counting.{Counting}
use Rattle.mend.proofs.contours.count_lost.Given as goal

abbrev pub invariant-loop-length : goal.invariant-loop-length
invariant-loop-length l = Counting l.lengths l.initial.numbers l.initial.list l.initial.work l.numbers l.list l.work l.first l.lost l.length-index
