-- `polys::best::best_pair` meets its contract: the rows that are left, from the best so far, give the best of all. Assumes nothing.
use Rattle.mem.specs.Loops.{Doing}
use Rattle.rules.specs.Merge.{best_of_row, best_pair}
use Rattle.records.specs.Layout.{vertices_at, polygons_at}
use Rattle.polys.proofs.best.best_pair.Given as goal

abbrev pub invariant-loop-a : goal.invariant-loop-a
invariant-loop-a l = Doing (best_of_row (vertices_at l.work l.f.vertices.at l.f.vertices.n) l.f.nvp (polygons_at l.work l.f.polygons.at l.f.polygons.n)) (best_pair (vertices_at l.work l.f.vertices.at l.f.vertices.n)
    l.f.nvp (polygons_at l.work l.f.polygons.at l.f.polygons.n)) l.f.polygons.n l.m l.a
