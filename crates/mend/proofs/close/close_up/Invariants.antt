-- `mend::close::close_up` meets its contract: the loop's invariant is `Closing`: those that have moved stand from the place `to` on. The measure is how many
-- are left. Assumes nothing.
use Rattle.mend.proofs.Closing.{Closing}
use Rattle.mend.proofs.close.close_up.Given as goal

abbrev pub invariant-loop-i : goal.invariant-loop-i
invariant-loop-i l = Closing l.initial.numbers l.kept l.to l.numbers l.i
