use mathlib.Core.Path.{sym, ◌∙◌}
use native.Mathlib.Omega.{arith}
use Rattle.ears.proofs.Cuts.{cuts_none, cuts_more, cuts_stuck, cuts_done}
use Rattle.ears.proofs.cut.cut_all.Goals as goal

pub loop-m-init : goal.loop-m-init
loop-m-init c = cuts_none c.requires.0 c.requires.1

pub cut_one-requires : goal.cut_one-requires
cut_one-requires c = (c.loop-m.invariant.ready, omega arith, omega arith, omega arith)

pub loop-m-preserved : goal.loop-m-preserved
loop-m-preserved c =
    cuts_more c.loop-m.invariant c.requires.2 c.loop-m-test.true
    (sym c.cut_one.ensures.found ∙ c.if-cut_one.true) c.cut_one.ensures.words

pub returns-else-cut_one : goal.returns-else-cut_one
returns-else-cut_one c =
    cuts_stuck c.loop-m.invariant c.requires.2 c.loop-m-test.true
    (sym c.cut_one.ensures.found ∙ c.if-cut_one.false) c.cut_one.ensures.words

pub returns : goal.returns
returns c =
    cuts_done c.loop-m.invariant c.requires.2 (omega arith) c.put_triangle.ensures
