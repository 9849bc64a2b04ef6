-- `polys::rows::is_moved` meets its contract: it is the tests of the definition. Assumes nothing.
use mathlib.Core.Path.{refl}
use Rattle.laws.specs.Rows.{is_moved}
use Rattle.polys.proofs.rows.is_moved.Goals as goal

pub returns : goal.returns
unfolding is_moved
returns c = refl
