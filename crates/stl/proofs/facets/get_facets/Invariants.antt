-- `stl::facets::get_facets` meets its contract. The loop's invariant is `Reads`: the facets so far are in their words. Assumes nothing.
use Rattle.laws.proofs.StlWords.{Reads}
use Rattle.stl.proofs.facets.get_facets.Given as goal

abbrev pub invariant-loop-k : goal.invariant-loop-k
invariant-loop-k l = Reads l.file l.initial.words l.words l.k
