-- `mend::contours::mend_all` meets its contract: the loop's invariant is `MendingAll`: the contours that are done stand in front, the others are as they
-- were. The measure is how many are left. Assumes nothing.
use Rattle.mend.proofs.MendingAll.{MendingAll}
use Rattle.mend.proofs.contours.mend_all.Given as goal

abbrev pub invariant-loop-c : goal.invariant-loop-c
invariant-loop-c l = MendingAll l.initial.lengths l.initial.numbers l.initial.list l.initial.work l.lengths l.numbers l.list l.work l.all l.first l.c
