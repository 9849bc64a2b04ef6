-- `mend::job::longest_of` meets its contract: the loop's invariant is `Longest`: the longest so far and those that are left make the whole.
-- Assumes nothing.
use Rattle.mend.proofs.Longest.{Longest}
use Rattle.mend.proofs.job.longest_of.Given as goal

abbrev pub invariant-loop-n : goal.invariant-loop-n
invariant-loop-n l = Longest l.lengths l.most l.n-index
