-- `removals::all::goes` meets its contract: the mark, and then the test. Assumes nothing.
use Rattle.removals.proofs.Tries.{test_ready, marked, unmarked}
use Rattle.removals.proofs.all.goes.Goals as goal

pub can_remove_vertex-requires : goal.can_remove_vertex-requires
can_remove_vertex-requires c = test_ready c.requires.0

pub returns-then-work-s-eq1 : goal.returns-then-work-s-eq1
returns-then-work-s-eq1 c = marked c.requires.0 c.requires.1 c.if-work-s-eq1.true c.can_remove_vertex.ensures

pub returns : goal.returns
returns c = unmarked c.requires.0 c.requires.1 c.if-work-s-eq1.false
