-- `polys::side::shared_by` meets its contract: as long as nothing is found, the answer is that of the sides that are left. Assumes nothing.
use Rattle.records.specs.Values.{corners_from}
use Rattle.polys.proofs.Sides.{RowFrom}
use Rattle.polys.proofs.side.shared_by.Given as goal

abbrev pub invariant-loop-j : goal.invariant-loop-j
invariant-loop-j l = RowFrom (corners_from l.work l.at) (corners_from l.work l.bt) l.i l.j l.c
