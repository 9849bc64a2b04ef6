use Rattle.mend.proofs.Taking.{taking_begin, taking_ready, taking_more, taking_still, taking_end}
use Rattle.mend.proofs.ends.take_ends.Goals as goal

pub loop-init : goal.loop-init
loop-init g c =
    taking_begin c.requires

pub off_ends-next-requires : goal.off_ends-next-requires
off_ends-next-requires g c =
    taking_ready c.requires c.loop.invariant c.loop-test.true

pub returns-then-next-at : goal.returns-then-next-at
returns-then-next-at g c =
    taking_still c.requires c.loop.invariant c.off_ends-next.ensures c.if-next-at.true

pub loop-preserved : goal.loop-preserved
loop-preserved g c =
    taking_more c.requires c.loop.invariant c.loop-test.true c.off_ends-next.ensures

pub returns : goal.returns
returns g c =
    taking_end c.requires c.loop.invariant c.loop-test.false
