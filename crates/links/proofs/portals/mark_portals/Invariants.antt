-- `links::portals::mark_portals` meets its contract: the links of the polygons so far are R7's, those of the others are as they were. Assumes nothing.
use Rattle.links.proofs.Marks.{Marking}
use Rattle.links.proofs.portals.mark_portals.Given as goal

abbrev pub invariant-loop-i : goal.invariant-loop-i
invariant-loop-i l = Marking l.initial.work l.g.vertices.at l.g.vertices.n l.polygons.at l.polygons.n l.lo l.g.grid.w l.g.grid.h l.work l.i
