-- `trails::sides::push_sides` meets its contract: the sides that are written and those to come are all that the polygon gives. Assumes nothing.
use Rattle.trails.proofs.Given.{Giving}
use Rattle.trails.proofs.sides.push_sides.Given as goal

abbrev pub invariant-loop-j : goal.invariant-loop-j
invariant-loop-j l = Giving l.rem l.p l.initial.work l.work l.at l.k l.j
