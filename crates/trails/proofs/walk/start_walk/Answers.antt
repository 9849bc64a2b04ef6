-- `trails::walk::start_walk` meets its contract: the chain is the first side's first point. Assumes nothing.
use Rattle.trails.proofs.Steps.{came_first}
use Rattle.trails.proofs.walk.start_walk.Goals as goal

pub returns : goal.returns
returns c =
    came_first c.args.part.now c.args.n c.requires.1 c.load_side-s.ensures c.store_point.ensures
