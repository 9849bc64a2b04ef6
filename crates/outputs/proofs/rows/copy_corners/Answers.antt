use native.Mathlib.Omega.{arith}
use Rattle.mem.specs.Packed.{laid_none}
use Rattle.outputs.proofs.Words.{corners_short, row_ready}
use Rattle.outputs.proofs.Copies.{corners_fit, corner_copied, corners_copied}
use Rattle.outputs.proofs.rows.copy_corners.Goals as goal

pub loop-i-init : goal.loop-i-init
loop-i-init c = laid_none _ _ _ _

pub load_at-p-requires : goal.load_at-p-requires
load_at-p-requires c = (c.requires.stand, c.loop-i-test.true, omega (arith, corners_short c.requires c.loop-i.i, c.requires.most))

pub put_corners-requires : goal.put_corners-requires
put_corners-requires c = row_ready c.requires _ c.load_at-p.ensures (corners_fit c.requires c.loop-i.invariant c.loop-i-test.true)

pub loop-i-preserved : goal.loop-i-preserved
loop-i-preserved c = corner_copied c.requires c.loop-i.invariant c.loop-i-test.true c.load_at-p.ensures c.put_corners.ensures

pub returns : goal.returns
returns c = corners_copied c.requires c.loop-i.invariant c.loop-i-test.false
