use mathlib.Core.Path.{◌≡◌, sym, ◌∙◌}
use native.Mathlib.Omega.{arith}
use lib.ListN.{length}
use Rattle.mendsheet.proofs.Above.{passed_none, passed_all_lem, passed_found, passed_more}
use Rattle.mendsheet.proofs.lost.contours_above.Goals as goal

pub loop-c-init : goal.loop-c-init
loop-c-init c = passed_none c.args.lengths.now c.args.k

pub returns-then-rest-lengths : goal.returns-then-rest-lengths
returns-then-rest-lengths c = (passed_found c.loop-c.invariant c.loop-c-test.true c.if-rest-lengths.true, omega arith)

pub loop-c-preserved : goal.loop-c-preserved
loop-c-preserved c = passed_more c.loop-c.invariant c.loop-c-test.true c.if-rest-lengths.false

pub returns : goal.returns
returns c =
    let e : c.loop-c.c ≡ length c.args.lengths.now = omega arith in
    (sym e ∙ passed_all_lem c.loop-c.invariant c.loop-c-test.false, omega arith)
