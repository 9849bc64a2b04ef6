-- `ears::cut::cut_all` meets its contract: the loop's invariant is `Cuts`, that the cutting of the words now, after the triangles in the buffer,
-- comes to the answer of all; the measure is the words that are left. Assumes nothing.
use Rattle.ears.proofs.Cuts.{Cuts}
use Rattle.ears.proofs.cut.cut_all.Given as goal

abbrev pub invariant-loop-m : goal.invariant-loop-m
invariant-loop-m l = Cuts l.a l.n l.initial.w l.w l.m l.count

abbrev pub decreases-loop-m : goal.decreases-loop-m
decreases-loop-m l = l.m
