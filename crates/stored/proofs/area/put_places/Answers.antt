use native.Mathlib.Omega.{arith}
use lib.ListN.{length-set}
use Rattle.mem.specs.Packed.{laid_none}
use Rattle.stored.proofs.Places.{placed_more, placed_all}
use Rattle.stored.proofs.area.put_places.Goals as goal

pub loop-c-init : goal.loop-c-init
loop-c-init c = laid_none _ _ _ _

pub bounds-vertices-v : goal.bounds-vertices-v
bounds-vertices-v c =
    omega (arith, c.requires.inside c.loop-c.c c.loop-c-test.true, c.from-v.ensures)

pub bounds-vertices-v-in-loop-c : goal.bounds-vertices-v-in-loop-c
bounds-vertices-v-in-loop-c c =
    omega (arith, c.requires.inside c.loop-c.c c.loop-c-test.true, c.from-v.ensures)

pub bounds-pts-c-in-loop-c : goal.bounds-pts-c-in-loop-c
bounds-pts-c-in-loop-c c = simp length-set (omega (arith, c.loop-c.invariant.long, c.requires.room))

pub loop-c-preserved : goal.loop-c-preserved
loop-c-preserved c =
    rw (c.from.ensures, c.from-in-loop-c.ensures, c.from-v.ensures) (placed_more c.args.vertices.now c.args.corners.now c.loop-c.invariant c.loop-c-test.true)

pub returns : goal.returns
returns c = placed_all c.args.vertices.now c.args.corners.now c.loop-c.invariant c.loop-c-test.false
