-- The walk that only counts writes nothing. Assumes nothing.
use mathlib.Core.Path.{refl}
use Rattle.laws.specs.MendNumbers.{carried_if}
use Rattle.mend.proofs.lose.CountingLosing.lose.Goals as goal

pub returns : goal.returns
unfolding carried_if
returns c = record { numbers = refl; list = refl }
