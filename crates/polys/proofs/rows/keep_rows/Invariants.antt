-- `polys::rows::keep_rows` meets its contract: the rows from r on are kept, and nothing else has changed. Assumes nothing.
use Rattle.polys.proofs.Keeps.{Keeping}
use Rattle.polys.proofs.rows.keep_rows.Given as goal

abbrev pub invariant-loop-r : goal.invariant-loop-r
invariant-loop-r l = Keeping l.initial.work l.f l.work l.r
