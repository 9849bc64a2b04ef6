-- `polys::rows::renew_row` meets its contract: a row that is not stale is the row of the polygons that are there now. Assumes nothing.
use Rattle.polys.proofs.Renews.{renew_not}
use Rattle.polys.proofs.rows.renew_row.Goals as goal

pub returns-else-is_stale : goal.returns-else-is_stale
returns-else-is_stale c =
    renew_not c.requires c.row_at-m.ensures c.is_stale.ensures c.if-is_stale.false
