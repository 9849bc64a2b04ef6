use Rattle.holes.proofs.Fills.{mesh_ready, meshed_over}
use Rattle.holes.proofs.fill.mesh_hole.Goals as goal

-- src/fill.rt:125:5
pub merge_polys-requires : goal.merge_polys-requires
merge_polys-requires c = mesh_ready c.requires c.shape_triangles.ensures

-- src/fill.rt:110:1
pub returns : goal.returns
returns c =
    meshed_over c.requires c.shape_triangles.ensures c.merge_polys.ensures
