-- `checks::vertices::is_high` meets its contract: the two numbers that it reads are x and z of the definition. Assumes nothing.
use mathlib.Core.Path.{refl}
use Rattle.rules.specs.Job.{vertex_at}
use Rattle.rules.specs.Checks.{is_high}
use Rattle.checks.proofs.vertices.is_high.Goals as goal

pub returns : goal.returns
unfolding is_high vertex_at
returns c = refl
