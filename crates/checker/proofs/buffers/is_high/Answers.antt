-- `checker::buffers::is_high` meets its contract: the two numbers that it reads are x and z of the definition. Assumes nothing.
use mathlib.Core.Path.{refl}
use Rattle.rules.specs.Checks.{is_high}
use Rattle.stored.specs.Stored.{vertex_in}
use Rattle.checker.proofs.buffers.is_high.Goals as goal

pub returns : goal.returns
unfolding is_high vertex_in
returns c = refl
