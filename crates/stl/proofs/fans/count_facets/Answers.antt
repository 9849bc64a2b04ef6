use mathlib.Core.Path.{◌≡◌}
use Prim.Native.Nat.{◌+◌, ◌-◌, ◌*◌, ◌≤◌}
use native.Mathlib.Nat.{add-sub_cancel_left}
use native.Mathlib.Omega.{arith}
use lib.ListN.{length}
use Rattle.mem.specs.Loops.{block_fits}
use Rattle.stl.proofs.Fanning.{row_at}
use Rattle.stl.proofs.Counted.{Counted, counted_none, counted_more, counted_all}
use Rattle.stl.proofs.fans.count_facets.Goals as goal

pub loop-i-init : goal.loop-i-init
loop-i-init c = counted_none _ _ _

pub overflow_mul-from : goal.overflow_mul-from
overflow_mul-from c =
    let words : c.loop-i.i * c.args.mesh.now.nvp + c.args.mesh.now.nvp ≤ length c.args.mesh.now.polygons.now =
    block_fits c.loop-i.i c.args.np c.args.mesh.now.nvp _ c.loop-i-test.true c.requires.words in
    record { fits = omega (arith, words) }

pub overflow_add-from : goal.overflow_add-from
overflow_add-from c =
    let words : c.loop-i.i * c.args.mesh.now.nvp + c.args.mesh.now.nvp ≤ length c.args.mesh.now.polygons.now =
    block_fits c.loop-i.i c.args.np c.args.mesh.now.nvp _ c.loop-i-test.true c.requires.words in
    record { fits = omega (arith, words) }

pub offset_bounds-mesh-from : goal.offset_bounds-mesh-from
offset_bounds-mesh-from c =
    let words : c.loop-i.i * c.args.mesh.now.nvp + c.args.mesh.now.nvp ≤ length c.args.mesh.now.polygons.now =
    block_fits c.loop-i.i c.args.np c.args.mesh.now.nvp _ c.loop-i-test.true c.requires.words in
    record { fits = omega (arith, words) }

pub slice_bounds-count_corners-end : goal.slice_bounds-count_corners-end
slice_bounds-count_corners-end c =
    let words : c.loop-i.i * c.args.mesh.now.nvp + c.args.mesh.now.nvp ≤ length c.args.mesh.now.polygons.now =
    block_fits c.loop-i.i c.args.np c.args.mesh.now.nvp _ c.loop-i-test.true c.requires.words in
    omega (arith, words)

pub overflow_sub-n : goal.overflow_sub-n
overflow_sub-n c =
    let corners : c.count_corners.result ≡ length (row_at c.args.mesh.now.nvp c.args.mesh.now.polygons.now c.loop-i.i) = let nvp = c.args.mesh.now.nvp in
    rw (add-sub_cancel_left (c.loop-i.i * nvp) nvp) at c.count_corners.ensures.0 in
    let three : 3 ≤ c.count_corners.result = rw corners (c.requires.long c.loop-i.i c.loop-i-test.true) in
    omega (arith, three)

pub overflow_add-n : goal.overflow_add-n
overflow_add-n c =
    let corners : c.count_corners.result ≡ length (row_at c.args.mesh.now.nvp c.args.mesh.now.polygons.now c.loop-i.i) = let nvp = c.args.mesh.now.nvp in
    rw (add-sub_cancel_left (c.loop-i.i * nvp) nvp) at c.count_corners.ensures.0 in
    let again : let l = c.loop-i in
    Counted c.args.mesh.now.nvp c.args.np c.args.mesh.now.polygons.now (l.n + (c.count_corners.result - 2)) (l.i + 1) = counted_more c.args.mesh.now.nvp c.args.np c.args.mesh.now.polygons.now
    c.loop-i.invariant c.requires c.loop-i-test.true corners in
    omega (arith, again.few, again.within, c.requires.few)

pub loop-i-preserved : goal.loop-i-preserved
loop-i-preserved c =
    let corners : c.count_corners.result ≡ length (row_at c.args.mesh.now.nvp c.args.mesh.now.polygons.now c.loop-i.i) = let nvp = c.args.mesh.now.nvp in
    rw (add-sub_cancel_left (c.loop-i.i * nvp) nvp) at c.count_corners.ensures.0 in
    let again : let l = c.loop-i in
    Counted c.args.mesh.now.nvp c.args.np c.args.mesh.now.polygons.now (l.n + (c.count_corners.result - 2)) (l.i + 1) = counted_more c.args.mesh.now.nvp c.args.np c.args.mesh.now.polygons.now
    c.loop-i.invariant c.requires c.loop-i-test.true corners in
    again

pub returns : goal.returns
returns c =
    counted_all c.args.mesh.now.nvp c.args.np c.args.mesh.now.polygons.now c.loop-i.invariant c.loop-i-test.false
