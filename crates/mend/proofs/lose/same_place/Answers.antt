-- `mend::lose::same_place` meets its contract: x and z are compared as the rules compare places. Assumes nothing.
use mathlib.Core.Path.{refl}
use Rattle.rules.specs.Plane.{vequal}
use Rattle.rules.specs.Job.{vertex_at}
use Rattle.laws.specs.MendNumbers.{same_place}
use Rattle.mend.proofs.lose.same_place.Goals as goal

pub returns : goal.returns
unfolding same_place vequal vertex_at
returns c = refl
