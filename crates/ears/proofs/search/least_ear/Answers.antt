use mathlib.Core.Path.{refl, ◌∙◌}
use native.Mathlib.Omega.{arith}
use Rattle.mem.specs.Loops.{doing_more, doing_end}
use Rattle.rules.specs.Ears.{least_ear}
use Rattle.ears.proofs.Tries.{tried, passed}
use Rattle.ears.proofs.search.least_ear.Goals as goal
use Rattle.ears.proofs.search.least_ear.Goals.{then-is_cuttable, else-is_cuttable}

pub loop-i-init : goal.loop-i-init
unfolding least_ear
loop-i-init c = record { same = refl }

pub loop-i-preserved : goal.loop-i-preserved
loop-i-preserved c =
    let p = c.is_cuttable.ensures in
    let e = c.loop-i.best in
    doing_more c.loop-i.invariant c.loop-i-test.true
    (elim c.if-is_cuttable.branch [ then-is_cuttable w ↦ w.best-is ∙ tried _ _ _ _ e p w.if-is_cuttable.true w.key_from.ensures w.better_of-best.ensures | else-is_cuttable w ↦ w.best-is ∙ passed _ _ _ _ e p w.if-is_cuttable.false ])

pub returns : goal.returns
returns c = doing_end c.loop-i.invariant (omega arith)
