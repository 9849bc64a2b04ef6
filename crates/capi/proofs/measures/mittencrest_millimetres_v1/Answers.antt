-- `capi::measures::mittencrest_millimetres_v1` meets its contract: the size with its unit, converted. Assumes nothing.
use mathlib.Core.Path.{ap, ◌∙◌}
use Rattle.rules.specs.Units.{millimetres}
use Rattle.capi.proofs.measures.mittencrest_millimetres_v1.Goals as goal

pub returns : goal.returns
returns c = c.to_millimetres.ensures ∙ ap millimetres c.cell_size.ensures
