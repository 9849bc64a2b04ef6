-- `holes::clear::drop_numbers` meets its contract: the first i records are those of the polygons with those numbers, and the others are as they were. Assumes nothing.
use Rattle.holes.proofs.Clears.{Dropping}
use Rattle.holes.proofs.clear.drop_numbers.Given as goal

abbrev pub invariant-loop-i : goal.invariant-loop-i
invariant-loop-i l = Dropping l.initial.work l.o l.n l.rem l.work l.i
