-- `checker::sides::polygon_names_back` meets its contract: what is lent of polygon l are its corners and its links. Assumes nothing.
use mathlib.Core.Path.{refl}
use Prim.Native.Nat.{◌+◌, ◌-◌, ◌*◌, ◌≤◌}
use native.Mathlib.Omega.{arith}
use lib.ListN.{length}
use Rattle.mem.specs.Slice.{view}
use Rattle.rules.specs.Handed.{polygon_count}
use Rattle.checker.specs.Asked.{links_in}
use Rattle.checker.specs.Steps.{PolygonAt}
use Rattle.checker.proofs.Lent.{row_fits, links_fit, polygon_lent}
use Rattle.checker.proofs.sides.polygon_names_back.Goals as goal

pub overflow_mul-from : goal.overflow_mul-from
overflow_mul-from c =
    let m = links_in c.args.mesh.now.nvp c.args.mesh.now.polygons.now c.args.mesh.now.links.now in
    let words : (c.args.l * c.args.mesh.now.nvp) + c.args.mesh.now.nvp ≤ length c.args.mesh.now.polygons.now = row_fits m c.requires.0 c.args.l c.requires.1 in
    record { fits = omega (arith, words) }

pub corners_end-to-requires : goal.corners_end-to-requires
corners_end-to-requires c =
    let m = links_in c.args.mesh.now.nvp c.args.mesh.now.polygons.now c.args.mesh.now.links.now in
    let words : (c.args.l * c.args.mesh.now.nvp) + c.args.mesh.now.nvp ≤ length c.args.mesh.now.polygons.now = row_fits m c.requires.0 c.args.l c.requires.1 in
    words

pub offset_bounds-mesh-from : goal.offset_bounds-mesh-from
offset_bounds-mesh-from c =
    let m = links_in c.args.mesh.now.nvp c.args.mesh.now.polygons.now c.args.mesh.now.links.now in
    let words : (c.args.l * c.args.mesh.now.nvp) + c.args.mesh.now.nvp ≤ length c.args.mesh.now.polygons.now = row_fits m c.requires.0 c.args.l c.requires.1 in
    record { fits = omega (arith, words) }

pub slice_bounds-is_named_back-end : goal.slice_bounds-is_named_back-end
slice_bounds-is_named_back-end c =
    let m = links_in c.args.mesh.now.nvp c.args.mesh.now.polygons.now c.args.mesh.now.links.now in
    let words : (c.args.l * c.args.mesh.now.nvp) + c.args.mesh.now.nvp ≤ length c.args.mesh.now.polygons.now = row_fits m c.requires.0 c.args.l c.requires.1 in
    omega (arith, words, c.corners_end-to.ensures.within)

pub offset_bounds-mesh-from-2 : goal.offset_bounds-mesh-from-2
offset_bounds-mesh-from-2 c =
    let m = links_in c.args.mesh.now.nvp c.args.mesh.now.polygons.now c.args.mesh.now.links.now in
    let linked : (c.args.l * c.args.mesh.now.nvp) + c.args.mesh.now.nvp ≤ length c.args.mesh.now.links.now = links_fit m c.requires.0 c.args.l c.requires.1 in
    record { fits = omega (arith, linked) }

pub slice_bounds-is_named_back-end-2 : goal.slice_bounds-is_named_back-end-2
slice_bounds-is_named_back-end-2 c =
    let m = links_in c.args.mesh.now.nvp c.args.mesh.now.polygons.now c.args.mesh.now.links.now in
    let linked : (c.args.l * c.args.mesh.now.nvp) + c.args.mesh.now.nvp ≤ length c.args.mesh.now.links.now = links_fit m c.requires.0 c.args.l c.requires.1 in
    omega (arith, linked, c.corners_end-to.ensures.within)

pub is_named_back-requires : goal.is_named_back-requires
is_named_back-requires c =
    let m = links_in c.args.mesh.now.nvp c.args.mesh.now.polygons.now c.args.mesh.now.links.now in
    let start = c.args.l * c.args.mesh.now.nvp in
    let n = c.corners_end-to.result - start in
    let lent : PolygonAt m (polygon_count m) c.args.l (view c.args.mesh.now.polygons.now start n) (view c.args.mesh.now.links.now start n) =
    polygon_lent m c.requires.0 c.args.l c.requires.1 c.corners_end-to.result c.corners_end-to.ensures refl in
    lent.alike

pub returns : goal.returns
returns c =
    let m = links_in c.args.mesh.now.nvp c.args.mesh.now.polygons.now c.args.mesh.now.links.now in
    let start = c.args.l * c.args.mesh.now.nvp in
    let n = c.corners_end-to.result - start in
    let lent : PolygonAt m (polygon_count m) c.args.l (view c.args.mesh.now.polygons.now start n) (view c.args.mesh.now.links.now start n) =
    polygon_lent m c.requires.0 c.args.l c.requires.1 c.corners_end-to.result c.corners_end-to.ensures refl in
    let l = lent in rw (l.corners, l.links) at c.is_named_back.ensures
