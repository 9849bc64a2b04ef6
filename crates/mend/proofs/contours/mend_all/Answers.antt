use native.Mathlib.Omega.{arith}
use Rattle.mend.proofs.MendingAll.{mending_small}
use Rattle.mend.proofs.MendingAll.{mending_begin, mending_ready, mending_more, mending_end}
use Rattle.mend.proofs.contours.mend_all.Goals as goal

pub loop-c-init : goal.loop-c-init
loop-c-init c =
    mending_begin c.args.lengths.now c.args.numbers.now c.args.list.now c.args.work.now

pub mend_contour-one-requires : goal.mend_contour-one-requires
mend_contour-one-requires c =
    mending_ready c.requires c.loop-c.invariant (omega arith) c.link_at-n.ensures

pub overflow_cast-lengths : goal.overflow_cast-lengths
overflow_cast-lengths c =
    let w = mending_small c.requires c.loop-c.invariant (omega arith) c.link_at-n.ensures
    c.mend_contour-one.ensures in
    record { fits = omega (arith, w) }

pub overflow_add-all : goal.overflow_add-all
overflow_add-all c =
    let w = mending_small c.requires c.loop-c.invariant (omega arith) c.link_at-n.ensures
    c.mend_contour-one.ensures in
    record { fits = omega (arith, w) }

pub overflow_add-first : goal.overflow_add-first
overflow_add-first c =
    let w = mending_ready c.requires c.loop-c.invariant (omega arith) c.link_at-n.ensures in
    record { fits = omega (arith, w.walk.small) }

pub loop-c-preserved : goal.loop-c-preserved
loop-c-preserved c =
    mending_more c.requires c.loop-c.invariant (omega arith) c.link_at-n.ensures c.mend_contour-one.ensures

pub returns : goal.returns
returns c = mending_end c.loop-c.invariant (omega arith)
