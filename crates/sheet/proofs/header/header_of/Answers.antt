-- `sheet::header::header_of` meets its contract: field by field. Assumes nothing.
use mathlib.Core.Path.{◌≡◌, ap, ◌∙◌}
use Rattle.rules.specs.Units.{size_in, thousandths, zero_float, no_place}
use Rattle.sheet.proofs.Headers.{header_is}
use Rattle.sheet.proofs.header.header_of.Goals as goal

-- the cell size: its number, and then its unit
sized : (c : goal.After-thousandths-2) → c.cell_size-cell.result ≡ size_in c.args.inches (thousandths c.args.size)
sized c = c.cell_size-cell.ensures ∙ ap (size_in c.args.inches) c.thousandths.ensures

pub returns : goal.returns
unfolding zero_float no_place
returns c = let a = c.args in header_is a.inches a.size a.height (sized c) c.thousandths-2.ensures
