-- `checker::portals::portals_hold` meets its contract: what is lent of polygon i are its corners, which are vertices, and its links. Assumes nothing.
use mathlib.Core.Path.{refl, ◌∙◌}
use Prim.Native.Nat.{◌+◌, ◌-◌, ◌*◌, ◌≤◌}
use native.Mathlib.Omega.{arith}
use lib.ListN.{length}
use Rattle.mem.specs.Slice.{view}
use Rattle.rules.specs.Handed.{polygon_count}
use Rattle.checker.specs.Asked.{handed_in}
use Rattle.checker.specs.Steps.{RowsReady, PolygonAt}
use Rattle.checker.proofs.Lent.{row_fits, links_fit, rows_ready, polygon_lent}
use Rattle.checker.proofs.Bearing.{bears_is, sides_ready}
use Rattle.checker.proofs.portals.portals_hold.Goals as goal

pub overflow_mul-from : goal.overflow_mul-from
overflow_mul-from c =
    let m = handed_in c.args.mesh.now.nvp c.args.mesh.now.vertices.now c.args.mesh.now.polygons.now c.args.mesh.now.links.now in
    let ready : RowsReady m = rows_ready c.requires.0.buffers in
    let words : (c.args.i * c.args.mesh.now.nvp) + c.args.mesh.now.nvp ≤ length c.args.mesh.now.polygons.now = row_fits m ready c.args.i c.requires.1 in
    record { fits = omega (arith, words) }

pub corners_end-to-requires : goal.corners_end-to-requires
corners_end-to-requires c =
    let m = handed_in c.args.mesh.now.nvp c.args.mesh.now.vertices.now c.args.mesh.now.polygons.now c.args.mesh.now.links.now in
    let ready : RowsReady m = rows_ready c.requires.0.buffers in
    let words : (c.args.i * c.args.mesh.now.nvp) + c.args.mesh.now.nvp ≤ length c.args.mesh.now.polygons.now = row_fits m ready c.args.i c.requires.1 in
    words

pub offset_bounds-mesh-from : goal.offset_bounds-mesh-from
offset_bounds-mesh-from c =
    let m = handed_in c.args.mesh.now.nvp c.args.mesh.now.vertices.now c.args.mesh.now.polygons.now c.args.mesh.now.links.now in
    let ready : RowsReady m = rows_ready c.requires.0.buffers in
    let words : (c.args.i * c.args.mesh.now.nvp) + c.args.mesh.now.nvp ≤ length c.args.mesh.now.polygons.now = row_fits m ready c.args.i c.requires.1 in
    record { fits = omega (arith, words) }

pub slice_bounds-sides_bear-end : goal.slice_bounds-sides_bear-end
slice_bounds-sides_bear-end c =
    let m = handed_in c.args.mesh.now.nvp c.args.mesh.now.vertices.now c.args.mesh.now.polygons.now c.args.mesh.now.links.now in
    let ready : RowsReady m = rows_ready c.requires.0.buffers in
    let words : (c.args.i * c.args.mesh.now.nvp) + c.args.mesh.now.nvp ≤ length c.args.mesh.now.polygons.now = row_fits m ready c.args.i c.requires.1 in
    omega (arith, words, c.corners_end-to.ensures.within)

pub offset_bounds-mesh-from-2 : goal.offset_bounds-mesh-from-2
offset_bounds-mesh-from-2 c =
    let m = handed_in c.args.mesh.now.nvp c.args.mesh.now.vertices.now c.args.mesh.now.polygons.now c.args.mesh.now.links.now in
    let ready : RowsReady m = rows_ready c.requires.0.buffers in
    let linked : (c.args.i * c.args.mesh.now.nvp) + c.args.mesh.now.nvp ≤ length c.args.mesh.now.links.now = links_fit m ready c.args.i c.requires.1 in
    record { fits = omega (arith, linked) }

pub slice_bounds-sides_bear-end-2 : goal.slice_bounds-sides_bear-end-2
slice_bounds-sides_bear-end-2 c =
    let m = handed_in c.args.mesh.now.nvp c.args.mesh.now.vertices.now c.args.mesh.now.polygons.now c.args.mesh.now.links.now in
    let ready : RowsReady m = rows_ready c.requires.0.buffers in
    let linked : (c.args.i * c.args.mesh.now.nvp) + c.args.mesh.now.nvp ≤ length c.args.mesh.now.links.now = links_fit m ready c.args.i c.requires.1 in
    omega (arith, linked, c.corners_end-to.ensures.within)

pub sides_bear-requires : goal.sides_bear-requires
sides_bear-requires c =
    let m = handed_in c.args.mesh.now.nvp c.args.mesh.now.vertices.now c.args.mesh.now.polygons.now c.args.mesh.now.links.now in
    let start = c.args.i * c.args.mesh.now.nvp in
    let n = c.corners_end-to.result - start in
    let ready : RowsReady m = rows_ready c.requires.0.buffers in
    let lent : PolygonAt m (polygon_count m) c.args.i (view c.args.mesh.now.polygons.now start n) (view c.args.mesh.now.links.now start n) =
    polygon_lent m ready c.args.i c.requires.1 c.corners_end-to.result c.corners_end-to.ensures refl in
    sides_ready c.args.mesh.now.nvp c.args.mesh.now.vertices.now c.args.mesh.now.polygons.now c.args.mesh.now.links.now c.args.i lent.corners
    c.requires.0 c.requires.1 lent.alike

pub returns : goal.returns
returns c =
    let m = handed_in c.args.mesh.now.nvp c.args.mesh.now.vertices.now c.args.mesh.now.polygons.now c.args.mesh.now.links.now in
    let start = c.args.i * c.args.mesh.now.nvp in
    let n = c.corners_end-to.result - start in
    let ready : RowsReady m = rows_ready c.requires.0.buffers in
    let lent : PolygonAt m (polygon_count m) c.args.i (view c.args.mesh.now.polygons.now start n) (view c.args.mesh.now.links.now start n) =
    polygon_lent m ready c.args.i c.requires.1 c.corners_end-to.result c.corners_end-to.ensures refl in
    c.sides_bear.ensures
    ∙ bears_is c.args.mesh.now.nvp c.args.mesh.now.vertices.now c.args.mesh.now.polygons.now c.args.mesh.now.links.now c.args.i lent.corners
    c.args.grid.w c.args.grid.h c.args.grid.border lent.links
