-- `holes::clear::take_out` meets its contract: what is left of the polygons is what R5 leaves of them; the measure is how many are left to look at. Assumes nothing.
use Prim.Native.Nat.{◌-◌}
use Rattle.holes.proofs.Clears.{Taking}
use Rattle.holes.proofs.clear.take_out.Given as goal

abbrev pub invariant-loop-i : goal.invariant-loop-i
invariant-loop-i l = Taking l.initial.work l.polygons.at l.polygons.n l.rem l.work l.m l.i

abbrev pub decreases-loop-i : goal.decreases-loop-i
decreases-loop-i l = l.m - l.i
