-- `trails::trail::link_back` meets its contract: the side has gone, and its point stands behind the chain. Assumes nothing.
use Rattle.trails.proofs.Steps.{came_back}
use Rattle.trails.proofs.trail.link_back.Goals as goal

pub returns : goal.returns
returns c =
    came_back c.args.part.now c.args.t c.args.s c.requires c.use_side.ensures c.store_point.ensures
