-- `stl::scale::in_millimetres` meets its contract: the size with its unit, in millimetres. Assumes nothing.
use mathlib.Core.Path.{◌∙◌, ap}
use Rattle.rules.specs.Units.{millimetres}
use Rattle.stl.proofs.scale.in_millimetres.Goals as goal

pub returns : goal.returns
returns c = c.to_millimetres.ensures ∙ ap millimetres c.cell_size.ensures
