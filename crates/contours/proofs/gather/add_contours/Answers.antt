use Prim.Native.Nat.{◌^◌, ◌<◌}
use mathlib.Core.Path.{◌∙◌}
use lib.ListN.{length}
use native.Mathlib.Omega.{arith}
use Rattle.contours.proofs.Gathers.{few_contours, going_begin, going_lists, going_ready, going_first, going_more, going_stuck, going_end}
use Rattle.contours.proofs.gather.add_contours.Goals as goal

pub loop-c-init : goal.loop-c-init
loop-c-init c = going_begin c.requires

pub contour_at-k-requires : goal.contour_at-k-requires
contour_at-k-requires c = going_lists c.requires c.loop-c.invariant c.loop-c-test.true

pub add_next-requires : goal.add_next-requires
add_next-requires c = going_ready c.requires c.loop-c.invariant c.loop-c-test.true c.contour_at-k.ensures

pub fill-requires : goal.fill-requires
fill-requires c = omega arith

pub shape_of-work-in-Err : goal.shape_of-work-in-Err
shape_of-work-in-Err c = c.fill.auto.work ∙ c.add_next.auto.work ∙ c.loop-c.invariant.size

pub returns-in-Err : goal.returns-in-Err
returns-in-Err c =
    let both = going_stuck c.requires c.loop-c.invariant c.loop-c-test.true c.contour_at-k.ensures (rw c.in-Err.is at c.add_next.ensures.answer)
    c.add_next.ensures.words c.fill.ensures in
    record { answer = both.0; words = both.1 }

pub overflow_add-first : goal.overflow_add-first
overflow_add-first c =
    let short-enough : length c.args.set.now.numbers.now < 2 ^ 64 = omega arith in
    record { fits = omega (arith, short-enough, going_first c.requires c.loop-c.invariant c.loop-c-test.true c.contour_at-k.ensures) }

pub loop-c-preserved : goal.loop-c-preserved
loop-c-preserved c =
    going_more c.requires c.loop-c.invariant c.loop-c-test.true c.contour_at-k.ensures (rw c.in-Ok.is at c.add_next.ensures.answer) c.add_next.ensures.words

pub returns : goal.returns
returns c =
    let both = going_end c.requires c.loop-c.invariant c.loop-c-test.false in
    record { answer = both.0; words = both.1 }
