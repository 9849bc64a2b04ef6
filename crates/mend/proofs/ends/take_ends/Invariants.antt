-- `mend::ends::take_ends` meets its contract: the loop's invariant is `Taking`: the turns that are left give the whole from the state that stands. Assumes nothing.
use Rattle.mend.proofs.Taking.{Taking}
use Rattle.mend.proofs.ends.take_ends.Given as goal

abbrev pub invariant-loop : goal.invariant-loop
invariant-loop g l = Taking g.L.Losing.writes l.initial.numbers l.initial.list l.stack l.initial.at l.numbers l.list l.at l.counter
