-- `sheet::rows::put_polygons` meets its contract: the loop prints the lines one behind the other, those of polygon i of its words up to the first 65,535.
-- Assumes nothing.
use Rattle.lines.specs.Pieces.{Pieces}
use Rattle.sheet.specs.Rows.{polygon_rows}
use Rattle.sheet.proofs.RowLoops.{polygon_row}
use Rattle.sheet.proofs.rows.put_polygons.Given as goal

abbrev pub invariant-loop-i : goal.invariant-loop-i
invariant-loop-i l = Pieces (polygon_row l.nvp l.polygons l.neighbours l.regions l.codes) l.n (polygon_rows l.nvp l.n l.polygons l.neighbours l.regions l.codes) l.initial.out l.at l.out l.to l.i
