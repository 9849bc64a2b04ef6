-- `polys::row::row_at` meets its contract: the words of a row are its pair. Assumes nothing.
use mathlib.Core.Path.{refl}
use Rattle.polys.specs.Rows.{row_in}
use Rattle.polys.proofs.row.row_at.Goals as goal

pub returns : goal.returns
unfolding row_in
returns c = refl
