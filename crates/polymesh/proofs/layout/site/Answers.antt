-- `polymesh::layout::site` meets its contract: places one behind the other. Assumes nothing.

use Rattle.polymesh.proofs.layout.site.Goals as goal

pub returns : goal.returns
returns c = rw (c.scratch_at.ensures, c.polygons_at.ensures)
