-- `checker::numbers::verdict_number` meets its contract: of an objection it is the objection's. Assumes nothing.
use mathlib.Core.Path.{refl}
use Rattle.rules.specs.Checker.{verdict_number}
use Rattle.checker.proofs.numbers.verdict_number.Goals as goal

pub returns-in-Ok : goal.returns-in-Ok
unfolding verdict_number
returns-in-Ok c = rw c.in-Ok.is refl

pub returns-in-Err : goal.returns-in-Err
unfolding verdict_number
returns-in-Err c = rw c.in-Err.is c.objection_number.ensures
