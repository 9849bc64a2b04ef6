-- `holes::test::push_end` meets its contract: case by case. Assumes nothing.
use mathlib.Core.Path.{ap}
use borrow.Author.Rules.{rules}
use lib.ListN.{length}
use Rattle.mem.specs.Slice.{splice_one, splice_nil}
use Rattle.holes.proofs.Pushes.{end_a, end_b, end_none}
use Rattle.holes.proofs.test.push_end.Goals as goal

pub bounds-work-at : goal.bounds-work-at
bounds-work-at c = let e = ap length (end_a c.args.rem c.args.a c.args.b c.if-a-rem.true) in search rules

pub returns-then-a-rem : goal.returns-then-a-rem
returns-then-a-rem c = let e = end_a c.args.rem c.args.a c.args.b c.if-a-rem.true in record { count = rw e; is = rw (e, splice_one) }

pub bounds-work-at-then-b-rem : goal.bounds-work-at-then-b-rem
bounds-work-at-then-b-rem c =
    let g = c.args in
    let e = ap length (end_b g.rem g.a g.b c.if-a-rem.false c.if-b-rem.true) in search rules

pub returns-then-b-rem : goal.returns-then-b-rem
returns-then-b-rem c =
    let g = c.args in
    let e = end_b g.rem g.a g.b c.if-a-rem.false c.if-b-rem.true in record { count = rw e; is = rw (e, splice_one) }

pub returns : goal.returns
returns c =
    let g = c.args in
    let e = end_none g.rem g.a g.b c.if-a-rem.false c.if-b-rem.false in record { count = rw e; is = rw (e, splice_nil) }
