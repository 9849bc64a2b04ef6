use Rattle.holes.proofs.Fills.{Laying}
use Rattle.holes.proofs.fill.lay_points.Given as goal

abbrev pub invariant-loop-k : goal.invariant-loop-k
invariant-loop-k l = Laying l.initial.work l.vertices.at l.vertices.n l.q l.m l.po l.work l.k
