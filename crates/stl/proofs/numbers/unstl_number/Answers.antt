-- `stl::numbers::unstl_number` meets its contract: of a refusal it is the refusal's. Assumes nothing.
use mathlib.Core.Path.{refl}
use Rattle.rules.specs.StlCall.{unstl_number}
use Rattle.stl.proofs.numbers.unstl_number.Goals as goal

pub returns-in-Ok : goal.returns-in-Ok
unfolding unstl_number
returns-in-Ok c = rw c.in-Ok.is refl

pub returns-in-Err : goal.returns-in-Err
unfolding unstl_number
returns-in-Err c = rw c.in-Err.is c.unstl_refusal_number.ensures
