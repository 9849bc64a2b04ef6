-- `ears::search::key_of` meets its contract: the code is the definition. Assumes nothing.
use Rattle.rules.specs.Ears.{key_of}
use Rattle.ears.proofs.search.key_of.Goals as goal

pub returns : goal.returns
unfolding key_of
returns c = rw c.length_squared.ensures
