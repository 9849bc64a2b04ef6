-- `mendsheet::lost::contours_above` meets its contract. The loop's invariant is `Passed`: the contours passed, and those of the rest, are all that stand above.
-- Assumes nothing.
use Rattle.mendsheet.proofs.Above.{Passed}
use Rattle.mendsheet.proofs.lost.contours_above.Given as goal

abbrev pub invariant-loop-c : goal.invariant-loop-c
invariant-loop-c l = Passed l.lengths l.k l.rest l.c
