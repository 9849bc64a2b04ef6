-- `ears::diagonal::is_hit` meets its contract: each arm is the definition at its kind. Assumes nothing.
use Rattle.rules.specs.Diagonal.{hits}
use Rattle.ears.proofs.diagonal.is_hit.Goals as goal

pub returns-in-Strict : goal.returns-in-Strict
unfolding hits
returns-in-Strict c = rw c.in-Strict.is c.intersect.ensures

pub returns-in-Loose : goal.returns-in-Loose
unfolding hits
returns-in-Loose c = rw c.in-Loose.is c.intersect_prop.ensures
