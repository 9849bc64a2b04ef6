use Rattle.polys.proofs.Sides.{rows_all, rows_none, rows_next, rows_hit}
use borrow.Author.Rules.{rules}
use Rattle.polys.proofs.side.shared_side.Goals as goal

pub loop-i-init : goal.loop-i-init
loop-i-init c = rows_all _ _ _ c.count_from-i.ensures

pub returns-in-Some : goal.returns-in-Some
returns-in-Some c = rows_hit _ _ c.loop-i.invariant _ _ (search rules) c.shared_by.ensures c.in-Some.is

pub loop-i-preserved : goal.loop-i-preserved
loop-i-preserved c = rows_next _ _ c.loop-i.invariant (search rules) c.shared_by.ensures c.in_default.is

pub returns : goal.returns
returns c = rows_none _ _ c.loop-i.invariant (search rules)
