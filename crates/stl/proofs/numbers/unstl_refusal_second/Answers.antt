-- `stl::numbers::unstl_refusal_second` meets its contract: each arm is the rules' second number with its variant known. Assumes nothing.
use mathlib.Core.Path.{refl}
use Rattle.rules.specs.StlCall.{unstl_refusal_second}
use Rattle.stl.proofs.numbers.unstl_refusal_second.Goals as goal

pub returns-in-BadLength : goal.returns-in-BadLength
unfolding unstl_refusal_second
returns-in-BadLength c = rw c.in-BadLength.is refl

pub returns-in-NotZero : goal.returns-in-NotZero
unfolding unstl_refusal_second
returns-in-NotZero c = rw c.in-NotZero.is refl

pub returns-in-ShortPoints : goal.returns-in-ShortPoints
unfolding unstl_refusal_second
returns-in-ShortPoints c = rw c.in-ShortPoints.is refl
