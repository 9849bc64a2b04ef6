-- `trails::walk::walk_all` meets its contract: what is left of the walk gives the whole walk; the measure is how many sides are left to use. Assumes
-- nothing.
use Rattle.rules.specs.Fuel.{walking}
use Rattle.trails.specs.Trails.{walk_in}
use Rattle.trails.proofs.Passes.{Roaming}
use Rattle.trails.proofs.walk.walk_all.Given as goal

abbrev pub invariant-loop-u : goal.invariant-loop-u
invariant-loop-u l = Roaming (walking (walk_in l.initial.part l.initial.u)) l.initial.part l.part l.u

abbrev pub decreases-loop-u : goal.decreases-loop-u
decreases-loop-u l = l.u.left
