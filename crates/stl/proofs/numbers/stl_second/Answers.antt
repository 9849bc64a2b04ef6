-- `stl::numbers::stl_second` meets its contract: of a refusal it is the refusal's. Assumes nothing.
use mathlib.Core.Path.{refl}
use Rattle.rules.specs.StlCall.{stl_second}
use Rattle.stl.proofs.numbers.stl_second.Goals as goal

pub returns-in-Ok : goal.returns-in-Ok
unfolding stl_second
returns-in-Ok c = rw c.in-Ok.is refl

pub returns-in-Err : goal.returns-in-Err
unfolding stl_second
returns-in-Err c = rw c.in-Err.is c.stl_refusal_second.ensures
