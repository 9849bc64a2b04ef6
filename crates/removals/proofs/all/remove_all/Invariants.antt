-- `removals::all::remove_all` meets its contract: before each try, a mesh stands there of which the rest is still to be tried. It ends because vertices get fewer or the
-- number rises. Assumes nothing.
use Prim.Native.Nat.{◌-◌}
use Rattle.removals.proofs.Tries.{Left}
use Rattle.removals.proofs.all.remove_all.Given as goal

abbrev pub invariant-loop-i : goal.invariant-loop-i
invariant-loop-i l = Left l.initial.work l.s l.initial.c l.nvp l.work l.c l.i

abbrev pub decreases-loop-i : goal.decreases-loop-i
decreases-loop-i l = l.c.vertices - l.i
