-- `links::edges::is_free` meets its contract: the three tests are the rules'. Assumes nothing.
use mathlib.Core.Path.{refl}
use Rattle.rules.specs.Links.{is_free}
use Rattle.links.proofs.edges.is_free.Goals as goal

pub returns : goal.returns
unfolding is_free
returns c = refl
