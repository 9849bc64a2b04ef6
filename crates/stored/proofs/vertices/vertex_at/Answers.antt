-- `stored::vertices::vertex_at` meets its contract: the three numbers that it reads are x, y and z of the definition. Assumes nothing.
use mathlib.Core.Path.{refl}
use Rattle.stored.specs.Stored.{vertex_in}
use Rattle.stored.proofs.vertices.vertex_at.Goals as goal

pub returns : goal.returns
unfolding vertex_in
returns c = rw c.from-at.ensures refl
