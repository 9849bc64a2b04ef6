use borrow.Author.Rules.{rules}
use Rattle.mem.specs.Tab.{filled_none, filled_more}
use Rattle.polys.proofs.Joins.{round_below, round_fits, past_at, past_put}
use Rattle.polys.proofs.merge.put_past.Goals as goal

pub loop-i-init : goal.loop-i-init
loop-i-init c = filled_none _ _ _ _

pub offset_bounds-p-e : goal.offset_bounds-p-e
offset_bounds-p-e c = search (rules, round_fits)

pub bounds-p-e : goal.bounds-p-e
bounds-p-e c = search (rules, round_below)

pub loop-i-preserved : goal.loop-i-preserved
loop-i-preserved c =
    let g = c.args in
    filled_more c.loop-i.invariant _ _ (search rules)
    (past_at g.p (search rules) g.e (search rules) c.loop-i.i) (search rules)

pub returns : goal.returns
returns c =
    let g = c.args in
    past_put g.p (search rules) g.e (search rules) c.loop-i.invariant (search rules)
