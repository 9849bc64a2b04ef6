use mathlib.Core.Path.{◌∙◌}
use native.Mathlib.Omega.{arith}
use Rattle.mem.specs.Loops.{doing_more, doing_end}
use Rattle.records.specs.Polygons.{length_polygons}
use Rattle.polys.proofs.Greatest.{rows_begin}
use Rattle.polys.proofs.Keeps.{row_read}
use Rattle.polys.proofs.rows.best_kept.Goals as goal

pub loop-r-init : goal.loop-r-init
loop-r-init c = rows_begin _ c.args.f.nvp _ _ (length_polygons _ _ _) c.no_pair-m.ensures

pub loop-r-preserved : goal.loop-r-preserved
loop-r-preserved c =
    let h = c.loop-r-test.true in
    let n = length_polygons c.args.work.now c.args.f.polygons.at c.args.f.polygons.n in
    doing_more c.loop-r.invariant h
    (c.greater-m.ensures ∙ row_read (c.requires.at _ (omega arith) h) _ (omega (arith, h, n)) c.row_at.ensures)

pub returns : goal.returns
returns c = doing_end c.loop-r.invariant c.loop-r-test.false
