use Rattle.lines.specs.Exits.{passed_on}
use Rattle.checksheet.proofs.PlaceLines.{placing_begin, placing_ready, placing_next, placing_stop, placing_end}
use Rattle.checksheet.proofs.places.read_places.Goals as goal

pub loop-i-init : goal.loop-i-init
loop-i-init c = placing_begin c.requires

pub place_line-requires : goal.place_line-requires
place_line-requires c = placing_ready c.loop-i.invariant c.loop-i-test.true

pub loop-i-preserved : goal.loop-i-preserved
loop-i-preserved c =
    placing_next c.loop-i.invariant c.loop-i-test.true c.place_line.ensures c.in_ok-p.was

pub returns-in_err-p : goal.returns-in_err-p
returns-in_err-p c = rw (passed_on _ c.from_residual.ensures.1) (placing_stop c.loop-i.invariant c.loop-i-test.true c.place_line.ensures c.in_err-p.was)

pub returns : goal.returns
returns c = placing_end c.loop-i.invariant c.loop-i-test.false
