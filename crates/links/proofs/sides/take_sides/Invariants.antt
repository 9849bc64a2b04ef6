-- `links::sides::take_sides` meets its contract: the polygons that are left, from the records so far, give all. Assumes nothing.
use Prim.Native.Nat.{◌+◌}
use lib.ListN.{drop}
use Rattle.mem.specs.Loops.{each}
use Rattle.records.specs.Layout.{edges_at, polygons_at}
use Rattle.links.specs.Ready.{each_of, corners_in}
use Rattle.links.proofs.Rounds.{Going}
use Rattle.links.proofs.sides.take_sides.Given as goal

abbrev pub invariant-loop-i : goal.invariant-loop-i
invariant-loop-i g l = Going l.initial.work l.t l.nv l.ne (l.ne + g.S.Step.added (corners_in (polygons_at l.initial.work l.polygons.at l.polygons.n)))
    (each_of g.S.Step.made (polygons_at l.initial.work l.polygons.at l.polygons.n)) (each (each_of g.S.Step.made (polygons_at l.initial.work l.polygons.at l.polygons.n)) 0 l.polygons.n
    (edges_at l.initial.work l.t.edges l.ne)) l.polygons.n l.work l.n l.i (g.S.Step.added (corners_in (drop l.i (polygons_at l.initial.work l.polygons.at l.polygons.n))))
