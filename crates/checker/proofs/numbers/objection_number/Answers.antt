-- `checker::numbers::objection_number` meets its contract: each arm is the rules' number with its variant known. Assumes nothing.
use mathlib.Core.Path.{refl}
use Rattle.rules.specs.Checker.{objection_number}
use Rattle.checker.proofs.numbers.objection_number.Goals as goal

pub returns-in-Unsound : goal.returns-in-Unsound
unfolding objection_number
returns-in-Unsound c = rw c.in-Unsound.is c.fault_number.ensures

pub returns-in-BadPortals : goal.returns-in-BadPortals
unfolding objection_number
returns-in-BadPortals c = rw c.in-BadPortals.is refl

pub returns-in-BadArea : goal.returns-in-BadArea
unfolding objection_number
returns-in-BadArea c = rw c.in-BadArea.is refl
