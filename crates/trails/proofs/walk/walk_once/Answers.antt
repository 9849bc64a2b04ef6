use borrow.Author.Rules.{rules}
use Rattle.trails.proofs.Passes.{going_none, going_more, going_less, going_end, pass_over}
use Rattle.trails.proofs.walk.walk_once.Goals as goal

pub loop-u-init : goal.loop-u-init
loop-u-init c = going_none c.args.part.now c.args.t c.requires

pub try_side-u-requires : goal.try_side-u-requires
try_side-u-requires c = record { room = c.loop-u.invariant.room; below = search rules }

pub loop-u-smaller : goal.loop-u-smaller
loop-u-smaller c = going_less c.loop-u.invariant (search rules) c.try_side-u.ensures

pub loop-u-preserved : goal.loop-u-preserved
loop-u-preserved c = going_more c.loop-u.invariant (search rules) c.try_side-u.ensures c.try_side-u.auto.part

pub returns : goal.returns
returns c =
    pass_over c.args.part.now c.args.t (going_end c.loop-u.invariant (search rules))
