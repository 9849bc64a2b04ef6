-- `polymesh::layout::edge_tables` meets its contract: places one behind the other. Assumes nothing.

use Rattle.polymesh.proofs.layout.edge_tables.Goals as goal

pub returns : goal.returns
returns c = rw c.scratch_at-firsts.ensures
