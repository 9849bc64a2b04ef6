-- `polys::best::best_of_row` meets its contract: the polygons that are left of the row, from the best so far, give the best of the row. Assumes nothing.
use Rattle.records.specs.Layout.{vertices_at, polygons_at}
use Rattle.polys.proofs.Greatest.{Searching}
use Rattle.polys.proofs.best.best_of_row.Given as goal

abbrev pub invariant-loop-b : goal.invariant-loop-b
invariant-loop-b l = Searching (vertices_at l.work l.f.vertices.at l.f.vertices.n) l.f.nvp (polygons_at l.work l.f.polygons.at l.f.polygons.n) l.a l.initial.m l.f.polygons.n l.m l.b
