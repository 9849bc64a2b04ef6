use native.Mathlib.Omega.{arith}
use Rattle.laws.proofs.Ring.{next_below}
use Rattle.ears.proofs.Parts.{mark_none, mark_more, mark_all_lem}
use Rattle.ears.proofs.cut.mark_all.Goals as goal

pub loop-i-init : goal.loop-i-init
loop-i-init c = mark_none c.requires

pub remark_in-requires : goal.remark_in-requires
remark_in-requires c = (
  c.loop-i.invariant.ready,
  c.loop-i-test.true,
  rw c.next.ensures (next_below _ _ (omega arith)),
  rw c.next-i1.ensures (next_below _ _ (omega arith)),
)

pub loop-i-preserved : goal.loop-i-preserved
loop-i-preserved c =
    mark_more c.loop-i.invariant c.loop-i-test.true c.next-i1.ensures c.next.ensures
    c.remark_in.ensures

pub shape_of-w : goal.shape_of-w
shape_of-w c = c.loop-i.invariant.long

pub returns : goal.returns
returns c = mark_all_lem c.loop-i.invariant (omega arith)
