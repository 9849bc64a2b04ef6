-- `stl::fans::put_facets` meets its contract: the loop writes fan after fan, that of polygon i of its words up to the first 65,535. Assumes nothing.
use Rattle.lines.specs.Pieces.{Pieces}
use Rattle.stl.specs.Steps.{fan_bytes, facets_bytes}
use Rattle.stl.proofs.Fanning.{row_at}
use Rattle.stl.proofs.fans.put_facets.Given as goal

abbrev pub invariant-loop-i : goal.invariant-loop-i
invariant-loop-i l = Pieces (λ j. fan_bytes l.lengths.size l.lengths.height l.mesh.vertices.now (row_at l.mesh.nvp l.mesh.polygons.now j)) l.np
    (facets_bytes l.lengths.size l.lengths.height l.mesh.nvp l.np l.mesh.vertices.now l.mesh.polygons.now) l.initial.out l.at l.out l.to l.i
