-- `ears::search::beats` meets its contract, case by case. Assumes nothing.
use mathlib.Core.Path.{refl}
use Rattle.rules.specs.Ears.{beats}
use Rattle.ears.proofs.search.beats.Goals as goal

pub returns-in-Some : goal.returns-in-Some
unfolding beats
returns-in-Some c = rw c.in-Some.is refl

pub returns-in-None : goal.returns-in-None
unfolding beats
returns-in-None c = rw c.in-None.is refl
