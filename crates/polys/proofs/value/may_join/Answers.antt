-- `polys::value::may_join` meets its contract: it is the definition. Assumes nothing.
use Rattle.polys.proofs.Sides.{opposite_made}
use Rattle.polys.proofs.Values.{may_made}
use Rattle.polys.proofs.value.may_join.Goals as goal

pub returns : goal.returns
returns c =
    may_made _ _ _ _ _
    (opposite_made _ _ _ _ c.corner_from.ensures c.end_from.ensures c.corner_from-2.ensures
    c.end_from-2.ensures c.is_opposite-a.ensures)
    c.turns_left-b.ensures c.turns_left-c.ensures
