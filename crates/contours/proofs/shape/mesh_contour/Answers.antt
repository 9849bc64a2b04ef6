-- `contours::shape::mesh_contour` meets its contract: the triangles are shaped and merged, and blank records become zeros. Assumes nothing.
use Rattle.contours.proofs.Shapes.{mesh_ready, meshed_over}
use Rattle.contours.proofs.shape.mesh_contour.Goals as goal

pub merge_polys-r-requires : goal.merge_polys-r-requires
merge_polys-r-requires c = mesh_ready c.requires c.args.c.region c.args.c.code c.shape_contour.ensures

pub returns : goal.returns
returns c =
    meshed_over c.requires c.args.c.region c.args.c.code c.shape_contour.ensures c.merge_polys-r.ensures c.fill.ensures
