-- `holes::test::sides_used` meets its contract: the walk is along the sides that were collected, and zeros in its chain's place give the buffer back.
-- Assumes nothing.
use native.Mathlib.Omega.{arith}
use Rattle.holes.proofs.Verdicts.{few_sides, walked_all}
use Rattle.holes.proofs.test.sides_used.Goals as goal

pub returns-then-n-le2 : goal.returns-then-n-le2
returns-then-n-le2 c =
    few_sides c.requires c.collect_sides-n.ensures (omega (arith, c.if-n-le2.true))
    c.fill.ensures

pub returns : goal.returns
returns c =
    walked_all c.requires c.collect_sides-n.ensures (omega (arith, c.if-n-le2.false)) (omega arith) c.walk_sides-walked.ensures
    c.fill-2.ensures
