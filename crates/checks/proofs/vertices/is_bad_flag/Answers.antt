-- `checks::vertices::is_bad_flag` meets its contract: the number that it reads is the flag of the definition. Assumes nothing.
use mathlib.Core.Path.{refl}
use Rattle.rules.specs.Job.{flag_at}
use Rattle.checks.proofs.vertices.is_bad_flag.Goals as goal

pub returns : goal.returns
unfolding flag_at
returns c = refl
