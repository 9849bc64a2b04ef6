-- `trails::walk::walk_sides` meets its contract: it is `walk_in` in a part that the buffer lends. Assumes nothing.
use Rattle.trails.proofs.Passes.{walk_lent}
use Rattle.trails.proofs.walk.walk_sides.Goals as goal

pub returns : goal.returns
returns c =
    walk_lent c.args.work.now c.walk_in.new.part c.args.q c.args.e c.args.n c.requires c.walk_in.ensures c.walk_in.auto.part
