-- `trails::walk::walk_once` meets its contract: what is left of the pass gives the whole pass; the measure is how many sides are left to try. Assumes
-- nothing.
use Prim.Native.Nat.{◌-◌}
use Rattle.rules.specs.Fuel.{passing}
use Rattle.trails.specs.Trails.{walk_in}
use Rattle.trails.proofs.Passes.{Going}
use Rattle.trails.proofs.walk.walk_once.Given as goal

abbrev pub invariant-loop-u : goal.invariant-loop-u
invariant-loop-u l = Going (passing (walk_in l.initial.part l.initial.u)) l.initial.part l.part l.u

abbrev pub decreases-loop-u : goal.decreases-loop-u
decreases-loop-u l = l.u.left - l.u.at
