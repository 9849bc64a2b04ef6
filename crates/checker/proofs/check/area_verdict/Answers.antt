-- `checker::check::area_verdict` meets its contract: the area is the claim if their bits are the same. Assumes nothing.
use Rattle.checker.proofs.Verdicts.{area_meets, area_differs}
use Rattle.checker.proofs.check.area_verdict.Goals as goal

pub returns-then-mesh_area-claim : goal.returns-then-mesh_area-claim
returns-then-mesh_area-claim c =
    area_meets c.args.claim c.mesh_area.ensures (record { sfits = c.mesh_area.type_inv }) c.ranges.claim c.if-mesh_area-claim.true

pub returns : goal.returns
returns c = area_differs c.args.claim c.mesh_area.ensures c.if-mesh_area-claim.false
