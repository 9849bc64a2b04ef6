-- `trails::walk::walk_in` meets its contract: the chain is moved to the beginning, and what lies behind it wiped. Assumes nothing.
use lib.ListN.{length}
use Rattle.trails.proofs.Passes.{walk_over}
use Rattle.trails.proofs.walk.walk_in.Goals as goal

pub returns : goal.returns
returns c =
    let g = c.args in
    walk_over c.walk_all-t.ensures (length g.part.now) c.walk_all-t.auto.part c.move_down.ensures c.fill.ensures
