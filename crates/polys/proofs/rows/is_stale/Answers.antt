-- `polys::rows::is_stale` meets its contract: each answer is the definition with its tests known; what did not move has the stamp of its row. Assumes nothing.
use Rattle.polys.proofs.Renews.{renew_stamped, stale_moved, stale_first, stale_second}
use Rattle.polys.proofs.rows.is_stale.Goals as goal

pub returns-then-is_moved : goal.returns-then-is_moved
returns-then-is_moved c = stale_moved c.requires c.args.m c.is_moved.ensures c.if-is_moved.true

pub is_reached-requires : goal.is_reached-requires
is_reached-requires c =
    renew_stamped c.requires c.args.m c.is_moved.ensures c.if-is_moved.false c.stamp_at-s.ensures

pub returns-then-is_reached : goal.returns-then-is_reached
returns-then-is_reached c =
    stale_first c.requires c.args.m c.is_moved.ensures c.if-is_moved.false c.is_reached.ensures c.if-is_reached.true

pub is_reached-requires-2 : goal.is_reached-requires-2
is_reached-requires-2 c =
    renew_stamped c.requires c.args.m c.is_moved.ensures c.if-is_moved.false c.stamp_at-s.ensures

pub returns : goal.returns
returns c =
    stale_second c.requires c.args.m c.is_moved.ensures c.if-is_moved.false c.is_reached.ensures c.if-is_reached.false
    c.is_reached-2.ensures
