-- `sheet::rows::put_vertices` meets its contract: the loop prints the lines one behind the other, line i of the three words of vertex i. Assumes nothing.
use Rattle.lines.specs.Pieces.{Pieces}
use Rattle.sheet.specs.Rows.{vertex_rows}
use Rattle.sheet.proofs.RowLoops.{vertex_row}
use Rattle.sheet.proofs.rows.put_vertices.Given as goal

abbrev pub invariant-loop-i : goal.invariant-loop-i
invariant-loop-i l = Pieces (vertex_row l.vertices) l.k (vertex_rows l.vertices l.k) l.initial.out l.at l.out l.to l.i
