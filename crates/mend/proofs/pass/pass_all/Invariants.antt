-- `mend::pass::pass_all` meets its contract: the loop's invariant is `Going`: the points that are left give the whole from the state that stands. The
-- measure is how many are left. Assumes nothing.
use Rattle.mend.proofs.Going.{Going}
use Rattle.mend.proofs.pass.pass_all.Given as goal

abbrev pub invariant-loop-j : goal.invariant-loop-j
invariant-loop-j g l = Going g.L.Losing.writes l.initial.numbers l.initial.list l.initial.work l.first l.e l.lost l.numbers l.list l.work l.at l.j
