-- `checker::numbers::fault_second` meets its contract: each arm is the rules' second number with its variant known. Assumes nothing.
use mathlib.Core.Path.{refl}
use Rattle.rules.specs.Handed.{fault_second}
use Rattle.checker.proofs.numbers.fault_second.Goals as goal

pub returns-in-BadBuffers : goal.returns-in-BadBuffers
unfolding fault_second
returns-in-BadBuffers c = rw c.in-BadBuffers.is refl

pub returns-in-BadCorners : goal.returns-in-BadCorners
unfolding fault_second
returns-in-BadCorners c = rw c.in-BadCorners.is refl

pub returns-in-BadLinks : goal.returns-in-BadLinks
unfolding fault_second
returns-in-BadLinks c = rw c.in-BadLinks.is refl
