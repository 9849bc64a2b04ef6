-- `polys::rows::renew_rows` meets its contract: the rows from r on are those of the polygons that are there now, the others are as they were. Assumes nothing.
use Rattle.polys.proofs.Keeps.{Keeping}
use Rattle.polys.proofs.rows.renew_rows.Given as goal

abbrev pub invariant-loop-r : goal.invariant-loop-r
invariant-loop-r l = Keeping l.initial.work l.f l.work l.r
