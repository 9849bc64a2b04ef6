use mathlib.Core.Path.{◌≡◌, ap}
use Prim.Native.Nat.{◌+◌, ◌-◌, ◌*◌, ◌≤◌}
use native.Mathlib.Nat.{add-sub_cancel_left}
use native.Mathlib.Omega.{arith}
use lib.ListN.{length}
use Rattle.mem.specs.Slice.{view}
use Rattle.mem.specs.Loops.{block_fits}
use Rattle.lines.specs.Pieces.{pieces_none, pieces_room, pieces_more, pieces_all}
use Rattle.lines.specs.Printing.{printed_as}
use Rattle.stored.specs.Counts.{count_most, corners_there}
use Rattle.stl.specs.Steps.{fan_bytes}
use Rattle.stl.proofs.Fanning.{row_at, facets_over, fan_ready}
use Rattle.stl.proofs.fans.put_facets.Goals as goal

pub loop-i-init : goal.loop-i-init
loop-i-init c =
    let a = c.args in
    pieces_none _ _ (facets_over a.mesh.now.nvp a.np a.mesh.now.polygons.now a.lengths.size a.lengths.height a.mesh.now.vertices.now) c.requires.room

pub overflow_mul-from : goal.overflow_mul-from
overflow_mul-from c =
    let words : c.loop-i.i * c.args.mesh.now.nvp + c.args.mesh.now.nvp ≤ length c.args.mesh.now.polygons.now =
    block_fits c.loop-i.i c.args.np c.args.mesh.now.nvp _ c.loop-i-test.true c.requires.count.words in
    omega (arith, words)

pub overflow_add-from : goal.overflow_add-from
overflow_add-from c =
    let words : c.loop-i.i * c.args.mesh.now.nvp + c.args.mesh.now.nvp ≤ length c.args.mesh.now.polygons.now =
    block_fits c.loop-i.i c.args.np c.args.mesh.now.nvp _ c.loop-i-test.true c.requires.count.words in
    omega (arith, words)

pub offset_bounds-mesh-from : goal.offset_bounds-mesh-from
offset_bounds-mesh-from c =
    let words : c.loop-i.i * c.args.mesh.now.nvp + c.args.mesh.now.nvp ≤ length c.args.mesh.now.polygons.now =
    block_fits c.loop-i.i c.args.np c.args.mesh.now.nvp _ c.loop-i-test.true c.requires.count.words in
    omega (arith, words)

pub slice_bounds-count_corners-end : goal.slice_bounds-count_corners-end
slice_bounds-count_corners-end c =
    let words : c.loop-i.i * c.args.mesh.now.nvp + c.args.mesh.now.nvp ≤ length c.args.mesh.now.polygons.now =
    block_fits c.loop-i.i c.args.np c.args.mesh.now.nvp _ c.loop-i-test.true c.requires.count.words in
    omega (arith, words)

pub overflow_add-from-in-loop-i : goal.overflow_add-from-in-loop-i
overflow_add-from-in-loop-i c =
    let words : c.loop-i.i * c.args.mesh.now.nvp + c.args.mesh.now.nvp ≤ length c.args.mesh.now.polygons.now =
    block_fits c.loop-i.i c.args.np c.args.mesh.now.nvp _ c.loop-i-test.true c.requires.count.words in
    let few : c.count_corners-c.result ≤ c.args.mesh.now.nvp = let a = c.args in
    let from = c.loop-i.i * a.mesh.now.nvp in
    count_most a.mesh.now.polygons.now from a.mesh.now.nvp _ _ (add-sub_cancel_left from a.mesh.now.nvp) words c.count_corners-c.ensures in
    omega (arith, words, few)

pub offset_bounds-mesh-from-in-loop-i : goal.offset_bounds-mesh-from-in-loop-i
offset_bounds-mesh-from-in-loop-i c =
    let words : c.loop-i.i * c.args.mesh.now.nvp + c.args.mesh.now.nvp ≤ length c.args.mesh.now.polygons.now =
    block_fits c.loop-i.i c.args.np c.args.mesh.now.nvp _ c.loop-i-test.true c.requires.count.words in
    omega (arith, words)

pub slice_bounds-put_fan-end : goal.slice_bounds-put_fan-end
slice_bounds-put_fan-end c =
    let words : c.loop-i.i * c.args.mesh.now.nvp + c.args.mesh.now.nvp ≤ length c.args.mesh.now.polygons.now =
    block_fits c.loop-i.i c.args.np c.args.mesh.now.nvp _ c.loop-i-test.true c.requires.count.words in
    let few : c.count_corners-c.result ≤ c.args.mesh.now.nvp = let a = c.args in
    let from = c.loop-i.i * a.mesh.now.nvp in
    count_most a.mesh.now.polygons.now from a.mesh.now.nvp _ _ (add-sub_cancel_left from a.mesh.now.nvp) words c.count_corners-c.ensures in
    omega (arith, words, few)

pub put_fan-to-requires : goal.put_fan-to-requires
put_fan-to-requires c =
    let words : c.loop-i.i * c.args.mesh.now.nvp + c.args.mesh.now.nvp ≤ length c.args.mesh.now.polygons.now =
    block_fits c.loop-i.i c.args.np c.args.mesh.now.nvp _ c.loop-i-test.true c.requires.count.words in
    let lent : let a = c.args in
    let i = c.loop-i.i in
    view a.mesh.now.polygons.now (i * a.mesh.now.nvp) (i * a.mesh.now.nvp + c.count_corners-c.result - i * a.mesh.now.nvp) ≡ row_at a.mesh.now.nvp a.mesh.now.polygons.now i = let a = c.args in
    let from = c.loop-i.i * a.mesh.now.nvp in
    let n = c.count_corners-c.result in
    corners_there a.mesh.now.polygons.now from a.mesh.now.nvp _ n (add-sub_cancel_left from a.mesh.now.nvp) words c.count_corners-c.ensures _
    (add-sub_cancel_left from n) in
    fan_ready c.requires c.loop-i-test.true lent (pieces_room c.loop-i.invariant c.loop-i-test.true)

pub loop-i-preserved : goal.loop-i-preserved
loop-i-preserved c =
    let words : c.loop-i.i * c.args.mesh.now.nvp + c.args.mesh.now.nvp ≤ length c.args.mesh.now.polygons.now =
    block_fits c.loop-i.i c.args.np c.args.mesh.now.nvp _ c.loop-i-test.true c.requires.count.words in
    let lent : let a = c.args in
    let i = c.loop-i.i in
    view a.mesh.now.polygons.now (i * a.mesh.now.nvp) (i * a.mesh.now.nvp + c.count_corners-c.result - i * a.mesh.now.nvp) ≡ row_at a.mesh.now.nvp a.mesh.now.polygons.now i = let a = c.args in
    let from = c.loop-i.i * a.mesh.now.nvp in
    let n = c.count_corners-c.result in
    corners_there a.mesh.now.polygons.now from a.mesh.now.nvp _ n (add-sub_cancel_left from a.mesh.now.nvp) words c.count_corners-c.ensures _
    (add-sub_cancel_left from n) in
    let a = c.args in
    pieces_more c.loop-i.invariant c.loop-i-test.true
    (printed_as c.put_fan-to.ensures (ap (fan_bytes a.lengths.size a.lengths.height a.mesh.now.vertices.now) lent))

pub returns : goal.returns
returns c = pieces_all c.loop-i.invariant c.loop-i-test.false
