-- The walk that writes: a 1 is carried over, and a number more stands in the list. Assumes nothing.
use mathlib.Core.Path.{refl}
use Rattle.laws.specs.MendNumbers.{carried_if}
use Rattle.mend.proofs.lose.WritingLosing.lose.Goals as goal

pub returns : goal.returns
unfolding carried_if
returns c = record { numbers = c.carry.ensures; list = refl }
