-- `polys::rows::is_rival` meets its contract: it is the two tests of the definition. Assumes nothing.
use mathlib.Core.Path.{refl}
use Rattle.laws.specs.Rows.{is_rival}
use Rattle.polys.proofs.rows.is_rival.Goals as goal

pub returns : goal.returns
unfolding is_rival
returns c = refl
