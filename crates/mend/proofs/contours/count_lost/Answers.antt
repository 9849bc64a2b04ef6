use mathlib.Core.Path.{refl}
use native.Mathlib.Omega.{arith}
use Rattle.mend.proofs.Counting.{counting_begin, counting_ready, counting_more, counting_end}
use Rattle.mend.proofs.contours.count_lost.Goals as goal

pub loop-length-init : goal.loop-length-init
loop-length-init c =
    counting_begin c.args.lengths.now c.args.numbers.now c.args.list.now c.args.work.now

pub walk-at-requires : goal.walk-at-requires
walk-at-requires c =
    counting_ready c.requires c.loop-length.invariant c.loop-length-test.true refl

pub overflow_add-first : goal.overflow_add-first
overflow_add-first c =
    let w = counting_ready c.requires c.loop-length.invariant c.loop-length-test.true refl in
    record { fits = omega (arith, w.small) }

pub loop-length-preserved : goal.loop-length-preserved
loop-length-preserved c =
    counting_more c.requires c.loop-length.invariant c.loop-length-test.true refl c.walk-at.ensures

pub returns : goal.returns
returns c = counting_end c.loop-length.invariant c.loop-length-test.false
