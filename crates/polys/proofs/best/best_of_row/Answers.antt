use Rattle.records.specs.Polygons.{length_polygons}
use Rattle.polys.proofs.Greatest.{row_begin, row_more, row_end}
use Rattle.polys.proofs.best.best_of_row.Goals as goal

pub loop-b-init : goal.loop-b-init
loop-b-init c = row_begin _ c.args.f.nvp _ c.args.a _ _ (length_polygons _ _ _)

pub loop-b-preserved : goal.loop-b-preserved
loop-b-preserved c =
    row_more _ c.args.f.nvp _ c.loop-b.invariant c.loop-b-test.true c.get_poly_merge_value.ensures
    c.greater-m.ensures

pub returns : goal.returns
returns c = row_end _ c.args.f.nvp _ c.loop-b.invariant c.loop-b-test.false
