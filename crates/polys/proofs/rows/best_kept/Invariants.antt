-- `polys::rows::best_kept` meets its contract: the rows that are left, from the best so far, give the best pair of all. Assumes nothing.
use Rattle.mem.specs.Loops.{Doing}
use Rattle.rules.specs.Merge.{best_pair}
use Rattle.laws.specs.Rows.{row_against}
use Rattle.records.specs.Layout.{vertices_at, polygons_at}
use Rattle.polys.proofs.rows.best_kept.Given as goal

abbrev pub invariant-loop-r : goal.invariant-loop-r
invariant-loop-r l = Doing (row_against (vertices_at l.work l.f.vertices.at l.f.vertices.n) l.f.nvp (polygons_at l.work l.f.polygons.at l.f.polygons.n)) (best_pair (vertices_at l.work l.f.vertices.at l.f.vertices.n)
    l.f.nvp (polygons_at l.work l.f.polygons.at l.f.polygons.n)) l.f.polygons.n l.m l.r
