use native.Mathlib.Omega.{arith}
use Rattle.polys.proofs.Keeps.{keeping_begin, kept_behind, keeping_more, keeping_end}
use Rattle.polys.proofs.rows.keep_rows.Goals as goal

pub loop-r-init : goal.loop-r-init
loop-r-init c = keeping_begin c.requires

pub keep_row-requires : goal.keep_row-requires
keep_row-requires c =
    let g = c.loop-r.invariant in
    let h = c.loop-r-test.true in
    (kept_behind g h, omega (arith, g.most, h))

pub loop-r-preserved : goal.loop-r-preserved
loop-r-preserved c =
    keeping_more c.loop-r.invariant c.loop-r-test.true c.keep_row.ensures

pub shape_of-work : goal.shape_of-work
shape_of-work c = c.loop-r.invariant.size

pub returns : goal.returns
returns c = keeping_end c.loop-r.invariant c.loop-r-test.false
