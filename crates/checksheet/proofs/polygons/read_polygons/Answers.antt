use Rattle.lines.specs.Exits.{passed_on}
use Rattle.checksheet.proofs.PolygonLines.{going_begin, going_ready, going_next, going_stop, going_end}
use Rattle.checksheet.proofs.polygons.read_polygons.Goals as goal

pub loop-i-init : goal.loop-i-init
loop-i-init c = going_begin c.requires

pub polygon_lines-requires : goal.polygon_lines-requires
polygon_lines-requires c = going_ready c.loop-i.invariant c.loop-i-test.true

pub loop-i-preserved : goal.loop-i-preserved
loop-i-preserved c =
    going_next c.loop-i.invariant c.loop-i-test.true c.polygon_lines.ensures c.in_ok-p.was

pub returns-in_err-p : goal.returns-in_err-p
returns-in_err-p c = rw (passed_on _ c.from_residual.ensures.1) (going_stop c.loop-i.invariant c.loop-i-test.true c.polygon_lines.ensures c.in_err-p.was)

pub returns : goal.returns
returns c = going_end c.loop-i.invariant c.loop-i-test.false
