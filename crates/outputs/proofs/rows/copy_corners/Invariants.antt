-- `outputs::rows::copy_corners` meets its contract: the rows of the polygons so far are written. Assumes nothing.
use Rattle.outputs.proofs.Copies.{CornersCopied}
use Rattle.outputs.proofs.rows.copy_corners.Given as goal

abbrev pub invariant-loop-i : goal.invariant-loop-i
invariant-loop-i l = CornersCopied l.work l.at.polygons.at l.at.polygons.n l.nvp l.initial.out l.out l.i
