-- `contours::cut::place_in` meets its contract: the two numbers that it reads are the vertex's x and z. Assumes nothing.
use Rattle.rules.specs.Job.{vertex_at}
use mathlib.Core.Path.{refl}
use Rattle.contours.proofs.cut.place_in.Goals as goal

pub returns : goal.returns
unfolding vertex_at
returns c = refl
