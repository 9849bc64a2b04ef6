-- `stored::area::mesh_area` meets its contract. The loop's invariant is `Summed`: the sum is the area of the polygons so far. The measure is what is left of
-- the polygons. Assumes nothing.
use Rattle.stored.proofs.Sums.{Summed}
use Rattle.stored.proofs.area.mesh_area.Given as goal

abbrev pub invariant-loop-i : goal.invariant-loop-i
invariant-loop-i l = Summed l.nvp l.n l.k l.vertices l.polygons l.sum l.i
