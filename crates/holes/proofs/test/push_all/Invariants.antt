-- `holes::test::push_all` meets its contract: the first i polygons hold the vertex at most once, the neighbours in them are written, and the others are to come.
-- Assumes nothing.
use Rattle.holes.proofs.Pushes.{Looking}
use Rattle.holes.proofs.test.push_all.Given as goal

abbrev pub invariant-loop-i : goal.invariant-loop-i
invariant-loop-i l = Looking l.initial.work l.polygons.at l.polygons.n l.q l.rem l.work l.k l.i
