-- `polys::row::stamped_value` meets its contract: where the stamps have no bit in common there is no pair. Assumes nothing.
use Rattle.polys.proofs.Keeps.{stamped_apart}
use Rattle.polys.proofs.row.stamped_value.Goals as goal

pub returns-then-are_apart : goal.returns-then-are_apart
returns-then-are_apart c =
    stamped_apart c.requires.0 c.args.b _ c.requires.1 c.requires.2 c.stamp_at.ensures
    c.are_apart.ensures c.if-are_apart.true c.no_pair.ensures
