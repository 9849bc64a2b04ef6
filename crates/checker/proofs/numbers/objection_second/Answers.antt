-- `checker::numbers::objection_second` meets its contract: each arm is the rules' second number with its variant known. Assumes nothing.
use mathlib.Core.Path.{refl}
use Rattle.rules.specs.Checker.{objection_second}
use Rattle.checker.proofs.numbers.objection_second.Goals as goal

pub returns-in-Unsound : goal.returns-in-Unsound
unfolding objection_second
returns-in-Unsound c = rw c.in-Unsound.is c.fault_second.ensures

pub returns-in-BadPortals : goal.returns-in-BadPortals
unfolding objection_second
returns-in-BadPortals c = rw c.in-BadPortals.is refl

pub returns-in-BadArea : goal.returns-in-BadArea
unfolding objection_second
returns-in-BadArea c = rw c.in-BadArea.is refl
