-- `ears::cut::mark_all` meets its contract: the loop's invariant is `Marking`, that the rest of the places, marked from the words now, give the words
-- with all marks; the measure is what is left of the places. Assumes nothing.
use Prim.Native.Nat.{◌-◌}
use Rattle.ears.proofs.Parts.{Marking}
use Rattle.ears.proofs.cut.mark_all.Given as goal

abbrev pub invariant-loop-i : goal.invariant-loop-i
invariant-loop-i l = Marking l.a l.m l.initial.w l.w l.i
