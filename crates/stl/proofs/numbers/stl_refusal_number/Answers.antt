-- `stl::numbers::stl_refusal_number` meets its contract: each arm is the rules' number with its variant known. Assumes nothing.
use mathlib.Core.Path.{refl}
use Rattle.rules.specs.StlCall.{stl_refusal_number}
use Rattle.stl.proofs.numbers.stl_refusal_number.Goals as goal

pub returns-in-BadMesh : goal.returns-in-BadMesh
unfolding stl_refusal_number
returns-in-BadMesh c = rw c.in-BadMesh.is c.fault_number.ensures

pub returns-in-BadScale : goal.returns-in-BadScale
unfolding stl_refusal_number
returns-in-BadScale c = rw c.in-BadScale.is refl

pub returns-in-ShortFile : goal.returns-in-ShortFile
unfolding stl_refusal_number
returns-in-ShortFile c = rw c.in-ShortFile.is refl
