-- `checksheet::places::read_places` meets its contract. The loop's invariant is `Placing`: what is left from the place now comes to what the whole comes to.
-- Assumes nothing.
use Rattle.checksheet.proofs.PlaceLines.{Placing}
use Rattle.checksheet.proofs.places.read_places.Given as goal

abbrev pub invariant-loop-i : goal.invariant-loop-i
invariant-loop-i l = Placing l.text l.from l.k l.p l.i l.initial.vertices l.vertices
