-- `polys::rows::is_reached` meets its contract: each answer is the definition with its tests known. Assumes nothing.
use mathlib.Core.Path.{sym}
use Rattle.polys.proofs.Renews.{reached_before, reached_past, reached_if}
use Rattle.polys.proofs.rows.is_reached.Goals as goal

pub returns-then-q-r : goal.returns-then-q-r
returns-then-q-r c = sym (reached_before c.requires c.args.q c.args.l c.if-q-r.true)

pub returns-then-f-q : goal.returns-then-f-q
returns-then-f-q c =
    sym (reached_past c.requires c.args.q c.args.l c.if-q-r.false c.if-f-q.true)

pub returns : goal.returns
returns c =
    reached_if c.requires c.args.q c.args.l c.if-q-r.false c.if-f-q.false c.stamped_value.ensures c.is_rival.ensures
