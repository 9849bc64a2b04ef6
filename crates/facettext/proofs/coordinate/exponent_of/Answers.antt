-- `facettext::coordinate::exponent_of` meets its contract: it is the definition. Assumes nothing.
use mathlib.Core.Path.{refl}
use Rattle.rules.specs.StlText.{exponent_of}
use Rattle.facettext.proofs.coordinate.exponent_of.Goals as goal

pub returns : goal.returns
unfolding exponent_of
returns c = refl
