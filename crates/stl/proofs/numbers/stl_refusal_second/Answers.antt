-- `stl::numbers::stl_refusal_second` meets its contract: each arm is the rules' second number with its variant known. Assumes nothing.
use mathlib.Core.Path.{refl}
use Rattle.rules.specs.StlCall.{stl_refusal_second}
use Rattle.stl.proofs.numbers.stl_refusal_second.Goals as goal

pub returns-in-BadMesh : goal.returns-in-BadMesh
unfolding stl_refusal_second
returns-in-BadMesh c = rw c.in-BadMesh.is c.fault_second.ensures

pub returns-in-BadScale : goal.returns-in-BadScale
unfolding stl_refusal_second
returns-in-BadScale c = rw c.in-BadScale.is refl

pub returns-in-ShortFile : goal.returns-in-ShortFile
unfolding stl_refusal_second
returns-in-ShortFile c = rw c.in-ShortFile.is refl
