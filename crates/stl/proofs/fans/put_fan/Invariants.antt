-- `stl::fans::put_fan` meets its contract. The loop's invariant is `Fan`: the facets of the corners so far are written. The measure is what is left of the
-- corners. Assumes nothing.
use Rattle.stl.proofs.Fanning.{Fan}
use Rattle.stl.proofs.fans.put_fan.Given as goal

abbrev pub invariant-loop-k : goal.invariant-loop-k
invariant-loop-k l = Fan l.lengths.size l.lengths.height l.vertices l.corners l.initial.out l.at l.out l.to l.k
