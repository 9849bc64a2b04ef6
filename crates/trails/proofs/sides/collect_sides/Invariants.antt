-- `trails::sides::collect_sides` meets its contract: R5 on the polygons that are left gives what R5 on all of them gives; the measure is how many are left
-- to look at. Assumes nothing.
use Prim.Native.Nat.{◌-◌}
use Rattle.records.specs.Layout.{polygons_at}
use Rattle.trails.proofs.Order.{Collecting}
use Rattle.trails.proofs.sides.collect_sides.Given as goal

abbrev pub invariant-loop-i : goal.invariant-loop-i
invariant-loop-i l = Collecting l.rem (polygons_at l.initial.work l.polygons.at l.polygons.n) l.initial.work l.work l.q l.n l.m l.i l.k

abbrev pub decreases-loop-i : goal.decreases-loop-i
decreases-loop-i l = l.m - l.i
