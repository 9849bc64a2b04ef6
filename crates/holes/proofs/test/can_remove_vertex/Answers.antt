-- `holes::test::can_remove_vertex` meets its contract: the two tests one after the other. Assumes nothing.
use Rattle.holes.proofs.Verdicts.{push_ready, not_few, sides_ready, by_sides}
use Rattle.holes.proofs.test.can_remove_vertex.Goals as goal

pub few_open-requires : goal.few_open-requires
few_open-requires c = push_ready c.requires

pub sides_used-requires : goal.sides_used-requires
sides_used-requires c =
    sides_ready c.requires _ c.few_open.ensures c.if-few_open.true

pub returns-then-few_open : goal.returns-then-few_open
returns-then-few_open c =
    by_sides c.requires _ c.few_open.ensures c.if-few_open.true c.sides_used.ensures

pub returns : goal.returns
returns c = not_few c.requires _ c.few_open.ensures c.if-few_open.false
