-- `checker::portals::open_link` meets its contract: with a border it is R7's portal of the two places, and without one none. Assumes nothing.
use Rattle.checker.proofs.Bearing.{bordered, borderless}
use Rattle.checker.proofs.portals.open_link.Goals as goal

pub returns-then-grid-gt0 : goal.returns-then-grid-gt0
returns-then-grid-gt0 c =
    bordered _ _ _ c.if-grid-gt0.true c.place_at-p.ensures c.place_at-q.ensures c.portal_of.ensures

pub returns : goal.returns
returns c = borderless _ _ c.if-grid-gt0.false
