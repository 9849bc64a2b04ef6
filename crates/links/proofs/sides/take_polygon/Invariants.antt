-- `links::sides::take_polygon` meets its contract: the sides that are left, from the records so far, give all. Assumes nothing.
use Prim.Native.Nat.{◌+◌, ◌-◌}
use lib.ListN.{length}
use Rattle.mem.specs.Loops.{each}
use Rattle.records.specs.Layout.{edges_at}
use Rattle.records.specs.Values.{corners_of}
use Rattle.links.proofs.Rounds.{Going}
use Rattle.links.proofs.sides.take_polygon.Given as goal

abbrev pub invariant-loop-j : goal.invariant-loop-j
invariant-loop-j g l = Going l.initial.work l.t l.nv l.ne (l.ne + g.S.Step.added l.p.n) (g.S.Step.made (corners_of l.p) l.i)
    (each (g.S.Step.made (corners_of l.p) l.i) 0 (length (corners_of l.p)) (edges_at l.initial.work l.t.edges l.ne)) (length (corners_of l.p)) l.work l.n l.j
    (g.S.Step.added (l.p.n - l.j))
