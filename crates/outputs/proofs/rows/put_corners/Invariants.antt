-- `outputs::rows::put_corners` meets its contract: the places so far are written, and the first n of twelve are the polygon's row. Assumes nothing.
use lib.ListN.{get_or}
use Rattle.mem.specs.Tab.{Filled}
use Rattle.outputs.proofs.rows.put_corners.Given as goal

abbrev pub invariant-loop-k : goal.invariant-loop-k
invariant-loop-k l = Filled l.initial.out l.to (λ j. get_or l.p.corners j 0) l.n l.out l.k
