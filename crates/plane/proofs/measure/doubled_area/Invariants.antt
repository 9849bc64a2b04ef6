-- `plane::measure::doubled_area` meets its contract. The loop's invariant is `Summed`: the area is the sum so far and what the turns from k on add,
-- and the sum is within k times the largest D. Assumes nothing.
use Rattle.plane.proofs.Areas.{Summed}
use Rattle.plane.proofs.measure.doubled_area.Given as goal

abbrev pub invariant-loop-k : goal.invariant-loop-k
invariant-loop-k l = Summed l.pts l.sum l.k
