-- `ears::diagonal::left_by` meets its contract: each arm is the definition at its kind. Assumes nothing.
use Rattle.rules.specs.Diagonal.{left_by}
use Rattle.ears.proofs.diagonal.left_by.Goals as goal

pub returns-in-Strict : goal.returns-in-Strict
unfolding left_by
returns-in-Strict c = rw c.in-Strict.is c.is_left.ensures

pub returns-in-Loose : goal.returns-in-Loose
unfolding left_by
returns-in-Loose c = rw c.in-Loose.is c.is_left_on.ensures
