-- `polymesh::layout::places` meets its contract: places one behind the other. Assumes nothing.

use Rattle.polymesh.proofs.layout.places.Goals as goal

pub returns : goal.returns
returns c = rw (c.links_at.ensures, c.polygons_at.ensures)
