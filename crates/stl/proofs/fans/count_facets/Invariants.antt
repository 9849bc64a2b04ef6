-- `stl::fans::count_facets` meets its contract. The loop's invariant is `Counted`: what is counted and the facets of the polygons that are left are all.
-- The measure is what is left of the polygons. Assumes nothing.
use Rattle.stl.proofs.Counted.{Counted}
use Rattle.stl.proofs.fans.count_facets.Given as goal

abbrev pub invariant-loop-i : goal.invariant-loop-i
invariant-loop-i l = Counted l.mesh.nvp l.np l.mesh.polygons.now l.n l.i
