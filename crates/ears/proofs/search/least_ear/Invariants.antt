-- `ears::search::least_ear` meets its contract: the loop's invariant is `Doing`, that the rest of the places, tried from the best ear so far, give
-- the least ear of all; the measure is what is left of the places. Assumes nothing.
use Prim.Native.Nat.{◌-◌}
use lib.ListN.{length}
use Rattle.mem.specs.Loops.{Doing}
use Rattle.rules.specs.Ears.{try_ear, least_ear}
use Rattle.plane.specs.Points.{points_in}
use Rattle.ears.proofs.search.least_ear.Given as goal

abbrev pub invariant-loop-i : goal.invariant-loop-i
invariant-loop-i l = Doing (try_ear l.kind (points_in l.pts) l.ix) (least_ear l.kind (points_in l.pts) l.ix) (length l.ix) l.best l.i
