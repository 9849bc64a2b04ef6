-- `checker::portals::place_at` meets its contract: the two numbers that it reads are x and z of the vertex. Assumes nothing.
use Rattle.checker.proofs.Bearing.{place_is}
use Rattle.checker.proofs.portals.place_at.Goals as goal

pub returns : goal.returns
returns c = rw c.from-at.ensures (place_is _ _ c.requires)
