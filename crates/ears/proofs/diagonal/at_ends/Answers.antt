-- `ears::diagonal::at_ends` meets its contract: the code is the definition. Assumes nothing.
use mathlib.Core.Path.{refl}
use Rattle.rules.specs.Diagonal.{at_ends}
use Rattle.ears.proofs.diagonal.at_ends.Goals as goal

pub returns : goal.returns
unfolding at_ends
returns c = refl
