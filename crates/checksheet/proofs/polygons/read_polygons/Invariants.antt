-- `checksheet::polygons::read_polygons` meets its contract. The loop's invariant is `Going`: what is left from the place now comes to what the whole comes to.
-- Assumes nothing.
use Rattle.checksheet.proofs.PolygonLines.{Going}
use Rattle.checksheet.proofs.polygons.read_polygons.Given as goal

abbrev pub invariant-loop-i : goal.invariant-loop-i
invariant-loop-i l = Going l.text l.initial.p l.words l.n l.p l.i l.initial.polygons l.initial.links l.polygons l.links
