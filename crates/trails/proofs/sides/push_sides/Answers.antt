use borrow.Author.Rules.{rules}
use Rattle.trails.proofs.Given.{giving_none, giving_room, giving_more, giving_end}
use Rattle.trails.proofs.sides.push_sides.Goals as goal

pub loop-j-init : goal.loop-j-init
loop-j-init c =
    giving_none c.args.rem c.args.p c.args.work.now c.args.at (search rules) (search rules) (search rules)

pub overflow_mul-k : goal.overflow_mul-k
overflow_mul-k c = let h = giving_room c.loop-j.invariant (search rules) in search rules

pub overflow_add-at : goal.overflow_add-at
overflow_add-at c = let h = giving_room c.loop-j.invariant (search rules) in search rules

pub push_side-k-requires : goal.push_side-k-requires
push_side-k-requires c = (search rules, giving_room c.loop-j.invariant (search rules))

pub overflow_add-k : goal.overflow_add-k
overflow_add-k c = let h = giving_room c.loop-j.invariant (search rules) in search rules

pub loop-j-preserved : goal.loop-j-preserved
loop-j-preserved c =
    giving_more c.loop-j.invariant (search rules) c.push_side-k.ensures c.push_side-k.auto.work

pub returns : goal.returns
returns c = giving_end c.loop-j.invariant (search rules)
