-- `outputs::vertices::copy_vertices` meets its contract: the words of the vertices so far are written. Assumes nothing.
use Rattle.outputs.proofs.Copies.{VerticesCopied}
use Rattle.outputs.proofs.vertices.copy_vertices.Given as goal

abbrev pub invariant-loop-k : goal.invariant-loop-k
invariant-loop-k l = VerticesCopied l.work l.at.vertices.at l.at.vertices.n l.initial.out l.out l.k
