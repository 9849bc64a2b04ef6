-- `polymesh::link::link_mesh` meets its contract: what the first step leaves is what the second asks for. Assumes nothing.
use Rattle.polymesh.proofs.Links.{link_ready, mark_ready, linked}
use Rattle.polymesh.proofs.link.link_mesh.Goals as goal

pub build_mesh_adjacency-requires : goal.build_mesh_adjacency-requires
build_mesh_adjacency-requires c = rw (c.site-s.ensures, c.edge_tables-tables.ensures, c.links_at-lo.ensures) (link_ready c.requires)

pub mark_portals-requires : goal.mark_portals-requires
mark_portals-requires c =
    rw (c.site-s.ensures, c.links_at-lo.ensures)
    (mark_ready c.requires (rw (c.site-s.ensures, c.edge_tables-tables.ensures, c.links_at-lo.ensures) at c.build_mesh_adjacency.ensures))

pub returns : goal.returns
returns c =
    linked c.requires
    (rw (c.site-s.ensures, c.edge_tables-tables.ensures, c.links_at-lo.ensures) at c.build_mesh_adjacency.ensures)
    _ _ _
    (rw (c.site-s.ensures, c.links_at-lo.ensures) at c.mark_portals.ensures)
