use Rattle.holes.proofs.Fills.{Shaping}
use Rattle.holes.proofs.fill.shape_triangles.Given as goal

abbrev pub invariant-loop-i : goal.invariant-loop-i
invariant-loop-i l = Shaping l.initial.work l.at l.q l.m l.to l.k l.work l.i
