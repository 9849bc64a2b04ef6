use Rattle.polys.proofs.Keeps.{keeping_begin, keeping_more, keeping_end}
use Rattle.polys.proofs.Renews.{renewable_at}
use Rattle.polys.proofs.rows.renew_rows.Goals as goal

pub loop-r-init : goal.loop-r-init
loop-r-init c = keeping_begin c.requires.rows

pub renew_row-requires : goal.renew_row-requires
renew_row-requires c = renewable_at c.requires c.loop-r.invariant c.loop-r-test.true

pub loop-r-preserved : goal.loop-r-preserved
loop-r-preserved c =
    keeping_more c.loop-r.invariant c.loop-r-test.true c.renew_row.ensures

pub shape_of-work : goal.shape_of-work
shape_of-work c = c.loop-r.invariant.size

pub returns : goal.returns
returns c = keeping_end c.loop-r.invariant c.loop-r-test.false
