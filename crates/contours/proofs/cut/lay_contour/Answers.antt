use lib.ListN.{length-set}
use native.Mathlib.Omega.{arith}
use Rattle.mem.specs.Packed.{laid_none}
use Rattle.contours.proofs.Cuts.{lay_more, lay_all}
use Rattle.contours.proofs.cut.lay_contour.Goals as goal

pub loop-k-init : goal.loop-k-init
loop-k-init c = laid_none _ _ _ _

pub bounds-work-po-in-loop-k : goal.bounds-work-po-in-loop-k
bounds-work-po-in-loop-k c = simp length-set (omega (arith, c.loop-k.invariant.long, c.requires.fits))

pub loop-k-preserved : goal.loop-k-preserved
loop-k-preserved c = lay_more c.requires c.loop-k.invariant c.loop-k-test.true c.place_in-p.ensures

pub returns : goal.returns
returns c = lay_all c.requires c.loop-k.invariant c.loop-k-test.false
