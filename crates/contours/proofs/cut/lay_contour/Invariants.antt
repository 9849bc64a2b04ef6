-- `contours::cut::lay_contour` meets its contract: after k turns the first k places are written. Assumes nothing.
use Prim.Native.Nat.{◌-◌}
use Rattle.contours.proofs.Cuts.{Laying}
use Rattle.contours.proofs.cut.lay_contour.Given as goal

abbrev pub invariant-loop-k : goal.invariant-loop-k
invariant-loop-k l = Laying l.initial.work l.numbers l.first l.n l.po l.work l.k
