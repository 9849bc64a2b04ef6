-- `stl::points::pattern` meets its contract: a product with a length is no NaN, so that it has the definition's pattern. Assumes nothing.
use mathlib.Core.Path.{refl}
use Rattle.rules.specs.Stl.{coordinate}
use Rattle.laws.proofs.StlFloats.{product_is_no_nan}
use Rattle.stl.proofs.points.pattern.Goals as goal

pub float_to_bits-result : goal.float_to_bits-result
float_to_bits-result c = rw c.from.ensures (product_is_no_nan c.args.n c.args.mm c.requires)

pub returns : goal.returns
unfolding coordinate
returns c = rw c.from.ensures refl
