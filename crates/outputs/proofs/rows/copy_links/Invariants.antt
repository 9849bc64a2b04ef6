-- `outputs::rows::copy_links` meets its contract: the rows of the polygons so far are written. Assumes nothing.
use Rattle.outputs.proofs.Copies.{LinksCopied}
use Rattle.outputs.proofs.rows.copy_links.Given as goal

abbrev pub invariant-loop-i : goal.invariant-loop-i
invariant-loop-i l = LinksCopied l.work l.at.polygons.at l.at.polygons.n l.at.links l.nvp l.initial.out l.out l.i
