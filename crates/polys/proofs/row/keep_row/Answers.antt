-- `polys::row::keep_row` meets its contract: the stamp and the best pair of the polygon are its row. Assumes nothing.
use Rattle.polys.proofs.Values.{stands_in}
use Rattle.polys.proofs.Keeps.{stamped_of, row_fits, row_made}
use Rattle.polys.proofs.row.keep_row.Goals as goal

pub stamp_from-s-requires : goal.stamp_from-s-requires
stamp_from-s-requires c = stands_in c.requires.0.rows.ready _ c.requires.1

pub stamped_row-m-requires : goal.stamped_row-m-requires
stamped_row-m-requires c = stamped_of _ c.requires.0 c.requires.1 c.stamp_from-s.ensures

pub store_row-requires : goal.store_row-requires
store_row-requires c =
    row_fits (stamped_of _ c.requires.0 c.requires.1 c.stamp_from-s.ensures) c.stamped_row-m.ensures

pub returns : goal.returns
returns c =
    row_made (stamped_of _ c.requires.0 c.requires.1 c.stamp_from-s.ensures) c.stamped_row-m.ensures c.store_row.ensures
