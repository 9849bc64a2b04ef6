use Rattle.records.specs.Polygons.{length_polygons}
use Rattle.polys.proofs.Greatest.{row_begin, row_more, row_end_none}
use Rattle.polys.proofs.row.stamped_row.Goals as goal

pub loop-b-init : goal.loop-b-init
loop-b-init c = row_begin _ c.args.f.nvp _ c.args.a _ _ (length_polygons _ _ _)

pub stamped_value-requires : goal.stamped_value-requires
stamped_value-requires c = (c.requires, c.loop-b.invariant.past, c.loop-b-test.true)

pub loop-b-preserved : goal.loop-b-preserved
loop-b-preserved c =
    let g = c.loop-b in
    row_more _ c.args.f.nvp _ g.invariant c.loop-b-test.true c.stamped_value.ensures c.greater-m.ensures

pub returns : goal.returns
returns c =
    row_end_none _ c.args.f.nvp _ c.loop-b.invariant c.loop-b-test.false c.no_pair-m.ensures
