-- `capi::header::header_from` meets its contract: field by field. Assumes nothing.
use mathlib.Core.Path.{refl}
use Rattle.capi.specs.Numbers.{number_at, header_from}
use Rattle.capi.proofs.header.header_from.Goals as goal

pub returns : goal.returns
unfolding header_from number_at
returns c = rw c.cell_size.ensures refl
