-- `polymesh::layout::ground` meets its contract: places one behind the other. Assumes nothing.

use Rattle.polymesh.proofs.layout.ground.Goals as goal

pub returns : goal.returns
returns c = rw (c.scratch_at.ensures, c.polygons_at.ensures)
