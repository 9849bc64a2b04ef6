-- `checks::check::check_v` meets its contract: it makes the test of the definition. Assumes nothing.
use mathlib.Core.Path.{refl}
use native.Mathlib.Omega.{arith}
use borrow.Author.Tests.{lt-ltb, le-ltb}
use Rattle.rules.specs.Checks.{refuse_if}
use Rattle.checks.specs.Answers.{verdict_of}
use Rattle.checks.proofs.check.check_v.Goals as goal

pub returns-then-v-gt65535 : goal.returns-then-v-gt65535
unfolding verdict_of refuse_if
returns-then-v-gt65535 c = rw (lt-ltb 65535 c.args.v (omega arith)) refl

pub returns : goal.returns
unfolding verdict_of refuse_if
returns c = rw (le-ltb 65535 c.args.v (omega arith)) refl
