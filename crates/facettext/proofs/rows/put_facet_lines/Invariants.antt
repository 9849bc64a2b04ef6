-- `facettext::rows::put_facet_lines` meets its contract: the loop prints the lines one behind the other. Assumes nothing.
use Rattle.rules.specs.Stl.{facets_in}
use Rattle.rules.specs.StlText.{facet_lines}
use Rattle.lines.specs.Pieces.{Pieces}
use Rattle.facettext.proofs.Facets.{row}
use Rattle.facettext.proofs.rows.put_facet_lines.Given as goal

abbrev pub invariant-loop-k : goal.invariant-loop-k
invariant-loop-k l = Pieces (row l.file) l.n (facet_lines (facets_in l.file)) l.initial.out l.at l.out l.to l.k
