-- `checks::check::check_nvp` meets its contract: it makes the test of the definition. Assumes nothing.
use mathlib.Core.Bool.{true, false}
use Rattle.rules.specs.Checks.{refuse_if}
use Rattle.checks.specs.Answers.{verdict_of}
use Rattle.checks.proofs.InHand.{limit_is}
use Rattle.checks.proofs.check.check_nvp.Goals as goal

pub returns : goal.returns
unfolding verdict_of refuse_if
returns c j e = limit_is j false e c.if-nvp.false

pub returns-then-nvp : goal.returns-then-nvp
unfolding verdict_of refuse_if
returns-then-nvp c j e = rw c.from.ensures (limit_is j true e c.if-nvp.true)
