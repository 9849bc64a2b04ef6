-- `checker::numbers::verdict_second` meets its contract: of an objection it is the objection's. Assumes nothing.
use mathlib.Core.Path.{refl}
use Rattle.rules.specs.Checker.{verdict_second}
use Rattle.checker.proofs.numbers.verdict_second.Goals as goal

pub returns-in-Ok : goal.returns-in-Ok
unfolding verdict_second
returns-in-Ok c = rw c.in-Ok.is refl

pub returns-in-Err : goal.returns-in-Err
unfolding verdict_second
returns-in-Err c = rw c.in-Err.is c.objection_second.ensures
