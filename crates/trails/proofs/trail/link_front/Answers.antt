-- `trails::trail::link_front` meets its contract: the side has gone, and its point stands in front of the chain. Assumes nothing.
use Rattle.trails.proofs.Steps.{came_front}
use Rattle.trails.proofs.trail.link_front.Goals as goal

pub returns : goal.returns
returns c =
    came_front c.args.part.now c.args.t c.args.s c.requires c.use_side.ensures c.store_point.ensures
