use Rattle.removals.specs.Standing.{stands_wider}
use Rattle.removals.proofs.Tries.{left_none, left_all, left_stays, may_go, left_gone, left_stuck}
use Rattle.removals.proofs.all.remove_all.Goals as goal

pub loop-i-init : goal.loop-i-init
loop-i-init c = left_none c.requires

pub goes-requires : goal.goes-requires
goes-requires c = (stands_wider c.loop-i.invariant.stands, c.loop-i-test.true)

pub remove_vertex-requires : goal.remove_vertex-requires
remove_vertex-requires c = may_go c.requires c.loop-i.invariant c.loop-i-test.true c.goes.ensures c.if-goes.true

pub loop-i-preserved-then-goes : goal.loop-i-preserved-then-goes
loop-i-preserved-then-goes c =
    let e = c.remove_vertex.ensures in
    left_gone c.requires c.loop-i.invariant c.loop-i-test.true c.goes.ensures c.if-goes.true e.words (rw c.in-Some.is at e.answer)

pub returns-in_default : goal.returns-in_default
returns-in_default c =
    let e = c.remove_vertex.ensures in
    let both = left_stuck c.requires c.loop-i.invariant c.loop-i-test.true c.goes.ensures c.if-goes.true e.words (rw c.in_default.is at e.answer) in
    record { answer = both.0; words = both.1 }

pub loop-i-preserved : goal.loop-i-preserved
loop-i-preserved c = left_stays c.requires c.loop-i.invariant c.loop-i-test.true c.goes.ensures c.if-goes.false

pub returns : goal.returns
returns c =
    let both = left_all c.requires c.loop-i.invariant c.loop-i-test.false in
    record { answer = both.0; words = both.1 }
