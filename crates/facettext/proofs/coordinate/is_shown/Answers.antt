-- `facettext::coordinate::is_shown` meets its contract: it is the definition. Assumes nothing.
use Rattle.rules.specs.StlText.{is_shown}
use Rattle.facettext.proofs.coordinate.is_shown.Goals as goal

pub returns : goal.returns
unfolding is_shown
returns c = rw c.exponent_of.ensures
