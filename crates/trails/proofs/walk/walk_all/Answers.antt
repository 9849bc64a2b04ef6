use borrow.Author.Rules.{rules}
use Rattle.records.specs.Layout.{sides_at}
use Rattle.trails.proofs.Passes.{roaming_none, roaming_more, roaming_end, pass_fewer, walk_all}
use Rattle.trails.proofs.walk.walk_all.Goals as goal

pub loop-u-init : goal.loop-u-init
loop-u-init c = roaming_none _ _ c.start_walk-u.ensures.room

pub walk_once-u-requires : goal.walk_once-u-requires
walk_once-u-requires c = c.loop-u.invariant.room

pub returns-then-u-left : goal.returns-then-u-left
returns-then-u-left c =
    let g = c.args in
    walk_all (sides_at g.part.now 0 g.n) c.start_walk-u.ensures (roaming_end c.loop-u.invariant c.walk_once-u.ensures (search rules))

pub loop-u-smaller : goal.loop-u-smaller
loop-u-smaller c =
    let h = pass_fewer c.loop-u.invariant c.walk_once-u.ensures in
    search rules

pub loop-u-preserved : goal.loop-u-preserved
loop-u-preserved c =
    let h = pass_fewer c.loop-u.invariant c.walk_once-u.ensures in
    roaming_more c.loop-u.invariant c.walk_once-u.ensures (search rules) c.walk_once-u.auto.part
