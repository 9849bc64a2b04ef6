use lib.ListN.{length-set}
use native.Mathlib.Omega.{arith}
use Rattle.mem.specs.Packed.{laid_none}
use Rattle.holes.proofs.Fills.{lay_placed, lay_named, lay_more, lay_all}
use Rattle.holes.proofs.fill.lay_points.Goals as goal

-- src/fill.rt:27:5
pub loop-k-init : goal.loop-k-init
loop-k-init c = laid_none _ _ _ _

-- src/fill.rt:29:13
pub place_at-p-requires : goal.place_at-p-requires
place_at-p-requires c =
    (lay_placed c.requires c.loop-k.invariant, lay_named c.requires c.loop-k.invariant c.loop-k-test.true c.load_point-c.ensures)

-- src/fill.rt:31:9
pub bounds-work-po-in-loop-k : goal.bounds-work-po-in-loop-k
bounds-work-po-in-loop-k c = simp length-set (omega (arith, c.loop-k.invariant.long, c.requires.fits))

-- src/fill.rt:27:5
pub loop-k-preserved : goal.loop-k-preserved
loop-k-preserved c = lay_more c.requires c.loop-k.invariant c.loop-k-test.true c.load_point-c.ensures c.place_at-p.ensures.0

-- src/fill.rt:22:1
pub returns : goal.returns
returns c = lay_all c.requires c.loop-k.invariant c.loop-k-test.false
