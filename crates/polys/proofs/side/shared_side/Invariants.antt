-- `polys::side::shared_side` meets its contract: as long as nothing is found, the answer is that of the rows that are left. Assumes nothing.
use Rattle.records.specs.Values.{corners_from}
use Rattle.polys.proofs.Sides.{Rows}
use Rattle.polys.proofs.side.shared_side.Given as goal

abbrev pub invariant-loop-i : goal.invariant-loop-i
invariant-loop-i l = Rows (corners_from l.work l.at) (corners_from l.work l.bt) l.i
