use mathlib.Core.Path.{◌≡◌, ◌∙◌, ap}
use mathlib.Core.List.{List}
use Prim.Native.Nat.{ℕ, ◌+◌, ◌*◌, ◌-◌, ◌≤◌, ◌<◌}
use native.Mathlib.Omega.{arith}
use lib.ListN.{length}
use mir.Syntax.{w64}
use mir.Val.{of_z}
use Rattle.ints.specs.Machine.{Reads, reads_of}
use Rattle.mem.specs.Slice.{view}
use Rattle.rules.specs.Exits.{up_to_none}
use Rattle.rules.specs.Plane.{area}
use Rattle.stored.specs.Stored.{places_of}
use Rattle.stored.specs.Counts.{count_most, corners_there}
use Rattle.stored.proofs.Sums.{row_end, polygon_ready, summed_none, summed_all, add_needs, summed_more}
use Rattle.stored.proofs.area.mesh_area.Goals as goal

bits : (c : goal.After-polygon_area-sum) → Reads w64 (of_z w64 c.polygon_area-sum.result) c.polygon_area-sum.result
bits c = reads_of (record { sfits = c.polygon_area-sum.type_inv })

pub loop-i-init : goal.loop-i-init
loop-i-init c = summed_none _ _ _ _ _

pub overflow_mul-from : goal.overflow_mul-from
overflow_mul-from c =
    let inside : c.loop-i.i < c.args.n = omega (arith, c.loop-i-test.true) in
    let row_fits : (c.loop-i.i * (c.args.nvp)) + (c.args.nvp) ≤ length ((c.args.polygons.now)) = row_end c.requires c.loop-i.i (inside) in
    record { fits = omega (arith, row_fits) }

pub overflow_add-from : goal.overflow_add-from
overflow_add-from c =
    let inside : c.loop-i.i < c.args.n = omega (arith, c.loop-i-test.true) in
    let row_fits : (c.loop-i.i * (c.args.nvp)) + (c.args.nvp) ≤ length ((c.args.polygons.now)) = row_end c.requires c.loop-i.i (inside) in
    record { fits = omega (arith, row_fits) }

pub offset_bounds-polygons-from : goal.offset_bounds-polygons-from
offset_bounds-polygons-from c =
    let inside : c.loop-i.i < c.args.n = omega (arith, c.loop-i-test.true) in
    let row_fits : (c.loop-i.i * (c.args.nvp)) + (c.args.nvp) ≤ length ((c.args.polygons.now)) = row_end c.requires c.loop-i.i (inside) in
    record { fits = omega (arith, row_fits) }

pub slice_bounds-count_corners-end : goal.slice_bounds-count_corners-end
slice_bounds-count_corners-end c =
    let inside : c.loop-i.i < c.args.n = omega (arith, c.loop-i-test.true) in
    let row_fits : (c.loop-i.i * (c.args.nvp)) + (c.args.nvp) ≤ length ((c.args.polygons.now)) = row_end c.requires c.loop-i.i (inside) in
    omega (arith, row_fits)

pub overflow_add-from-in-loop-i : goal.overflow_add-from-in-loop-i
overflow_add-from-in-loop-i c =
    let inside : c.loop-i.i < c.args.n = omega (arith, c.loop-i-test.true) in
    let row_fits : (c.loop-i.i * (c.args.nvp)) + (c.args.nvp) ≤ length ((c.args.polygons.now)) = row_end c.requires c.loop-i.i (inside) in
    let few : c.count_corners-c.result ≤ (c.args.nvp) = count_most ((c.args.polygons.now)) ((c.loop-i.i * (c.args.nvp))) ((c.args.nvp))
    ((c.loop-i.i * (c.args.nvp)) + (c.args.nvp) - (c.loop-i.i * (c.args.nvp))) (c.count_corners-c.result) (omega arith) (row_fits)
    c.count_corners-c.ensures in
    record { fits = omega (arith, row_fits, few) }

pub offset_bounds-polygons-from-in-loop-i : goal.offset_bounds-polygons-from-in-loop-i
offset_bounds-polygons-from-in-loop-i c =
    let inside : c.loop-i.i < c.args.n = omega (arith, c.loop-i-test.true) in
    let row_fits : (c.loop-i.i * (c.args.nvp)) + (c.args.nvp) ≤ length ((c.args.polygons.now)) = row_end c.requires c.loop-i.i (inside) in
    record { fits = omega (arith, row_fits) }

pub slice_bounds-polygon_area-end : goal.slice_bounds-polygon_area-end
slice_bounds-polygon_area-end c =
    let inside : c.loop-i.i < c.args.n = omega (arith, c.loop-i-test.true) in
    let row_fits : (c.loop-i.i * (c.args.nvp)) + (c.args.nvp) ≤ length ((c.args.polygons.now)) = row_end c.requires c.loop-i.i (inside) in
    let few : c.count_corners-c.result ≤ (c.args.nvp) = count_most ((c.args.polygons.now)) ((c.loop-i.i * (c.args.nvp))) ((c.args.nvp))
    ((c.loop-i.i * (c.args.nvp)) + (c.args.nvp) - (c.loop-i.i * (c.args.nvp))) (c.count_corners-c.result) (omega arith) (row_fits)
    c.count_corners-c.ensures in
    omega (arith, row_fits, few)

pub polygon_area-sum-requires : goal.polygon_area-sum-requires
polygon_area-sum-requires c =
    let inside : c.loop-i.i < c.args.n = omega (arith, c.loop-i-test.true) in
    let row_fits : (c.loop-i.i * (c.args.nvp)) + (c.args.nvp) ≤ length ((c.args.polygons.now)) = row_end c.requires c.loop-i.i (inside) in
    let there : (view ((c.args.polygons.now)) ((c.loop-i.i * (c.args.nvp)))
    ((c.loop-i.i * (c.args.nvp)) + c.count_corners-c.result - (c.loop-i.i * (c.args.nvp)))) ≡ (up_to_none
    (view ((c.args.polygons.now)) ((c.loop-i.i * (c.args.nvp))) ((c.args.nvp)))) =
    corners_there ((c.args.polygons.now)) ((c.loop-i.i * (c.args.nvp))) ((c.args.nvp))
    ((c.loop-i.i * (c.args.nvp)) + (c.args.nvp) - (c.loop-i.i * (c.args.nvp))) (c.count_corners-c.result) (omega arith) (row_fits)
    c.count_corners-c.ensures
    ((c.loop-i.i * (c.args.nvp)) + c.count_corners-c.result - (c.loop-i.i * (c.args.nvp))) (omega arith) in
    rw (there) (polygon_ready c.requires c.loop-i.i (inside))

pub overflow_add-sum : goal.overflow_add-sum
overflow_add-sum c =
    let inside : c.loop-i.i < c.args.n = omega (arith, c.loop-i-test.true) in
    let row_fits : (c.loop-i.i * (c.args.nvp)) + (c.args.nvp) ≤ length ((c.args.polygons.now)) = row_end c.requires c.loop-i.i (inside) in
    let there : (view ((c.args.polygons.now)) ((c.loop-i.i * (c.args.nvp)))
    ((c.loop-i.i * (c.args.nvp)) + c.count_corners-c.result - (c.loop-i.i * (c.args.nvp)))) ≡ (up_to_none
    (view ((c.args.polygons.now)) ((c.loop-i.i * (c.args.nvp))) ((c.args.nvp)))) =
    corners_there ((c.args.polygons.now)) ((c.loop-i.i * (c.args.nvp))) ((c.args.nvp))
    ((c.loop-i.i * (c.args.nvp)) + (c.args.nvp) - (c.loop-i.i * (c.args.nvp))) (c.count_corners-c.result) (omega arith) (row_fits)
    c.count_corners-c.ensures
    ((c.loop-i.i * (c.args.nvp)) + c.count_corners-c.result - (c.loop-i.i * (c.args.nvp))) (omega arith) in
    let added : c.polygon_area-sum.result ≡ area (places_of c.args.vertices.now
    ((up_to_none (view ((c.args.polygons.now)) ((c.loop-i.i * (c.args.nvp))) ((c.args.nvp)))))) =
    c.polygon_area-sum.ensures ∙ ap (λ (l : List ℕ). area (places_of c.args.vertices.now l)) (there) in
    add_needs c.loop-i.sum-bits c.requires c.loop-i.invariant (inside) (bits c) (added)

pub loop-i-preserved : goal.loop-i-preserved
loop-i-preserved c =
    let inside : c.loop-i.i < c.args.n = omega (arith, c.loop-i-test.true) in
    let row_fits : (c.loop-i.i * (c.args.nvp)) + (c.args.nvp) ≤ length ((c.args.polygons.now)) = row_end c.requires c.loop-i.i (inside) in
    let there : (view ((c.args.polygons.now)) ((c.loop-i.i * (c.args.nvp)))
    ((c.loop-i.i * (c.args.nvp)) + c.count_corners-c.result - (c.loop-i.i * (c.args.nvp)))) ≡ (up_to_none
    (view ((c.args.polygons.now)) ((c.loop-i.i * (c.args.nvp))) ((c.args.nvp)))) =
    corners_there ((c.args.polygons.now)) ((c.loop-i.i * (c.args.nvp))) ((c.args.nvp))
    ((c.loop-i.i * (c.args.nvp)) + (c.args.nvp) - (c.loop-i.i * (c.args.nvp))) (c.count_corners-c.result) (omega arith) (row_fits)
    c.count_corners-c.ensures
    ((c.loop-i.i * (c.args.nvp)) + c.count_corners-c.result - (c.loop-i.i * (c.args.nvp))) (omega arith) in
    let added : c.polygon_area-sum.result ≡ area (places_of c.args.vertices.now
    ((up_to_none (view ((c.args.polygons.now)) ((c.loop-i.i * (c.args.nvp))) ((c.args.nvp)))))) =
    c.polygon_area-sum.ensures ∙ ap (λ (l : List ℕ). area (places_of c.args.vertices.now l)) (there) in
    summed_more c.loop-i.sum-bits c.requires c.loop-i.invariant (inside) (bits c) (added)

pub returns : goal.returns
returns c = summed_all c.loop-i.invariant (omega (arith, c.loop-i-test.false))
