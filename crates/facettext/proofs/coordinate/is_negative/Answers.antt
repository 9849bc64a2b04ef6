-- `facettext::coordinate::is_negative` meets its contract: it is the definition. Assumes nothing.
use mathlib.Core.Path.{refl}
use Rattle.rules.specs.StlText.{is_negative}
use Rattle.facettext.proofs.coordinate.is_negative.Goals as goal

pub returns : goal.returns
unfolding is_negative
returns c = refl
