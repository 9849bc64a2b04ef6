use mathlib.Core.Path.{◌≡◌}
use Prim.Native.Nat.{◌+◌, ◌-◌, ◌*◌, ◌≤◌}
use native.Mathlib.Nat.{add-sub_cancel_left}
use native.Mathlib.Omega.{arith}
use lib.ListN.{length, get_or}
use Rattle.mem.specs.Slice.{view}
use Rattle.mem.specs.Loops.{block_fits}
use Rattle.lines.specs.Pieces.{pieces_none, pieces_room, pieces_more, pieces_all}
use Rattle.lines.specs.Printing.{printed_as}
use Rattle.stored.specs.Counts.{count_most}
use Rattle.sheet.specs.Rows.{polygon_text}
use Rattle.sheet.proofs.RowLoops.{polygon_row, polygons_over, row_printed}
use Rattle.sheet.proofs.rows.put_polygons.Goals as goal

pub loop-i-init : goal.loop-i-init
loop-i-init c =
    pieces_none _ _
    (polygons_over c.args.nvp c.args.n c.args.polygons.now c.args.neighbours.now c.args.regions.now c.args.codes.now) c.requires.room

pub overflow_mul-from : goal.overflow_mul-from
overflow_mul-from c =
    let words : c.loop-i.i * c.args.nvp + c.args.nvp ≤ length c.args.polygons.now = block_fits c.loop-i.i c.args.n c.args.nvp _ c.loop-i-test.true c.requires.polygons in
    omega (arith, words)

pub overflow_add-from : goal.overflow_add-from
overflow_add-from c =
    let words : c.loop-i.i * c.args.nvp + c.args.nvp ≤ length c.args.polygons.now = block_fits c.loop-i.i c.args.n c.args.nvp _ c.loop-i-test.true c.requires.polygons in
    omega (arith, words)

pub offset_bounds-polygons-from : goal.offset_bounds-polygons-from
offset_bounds-polygons-from c =
    let words : c.loop-i.i * c.args.nvp + c.args.nvp ≤ length c.args.polygons.now = block_fits c.loop-i.i c.args.n c.args.nvp _ c.loop-i-test.true c.requires.polygons in
    omega (arith, words)

pub slice_bounds-count_corners-count : goal.slice_bounds-count_corners-count
slice_bounds-count_corners-count c = omega arith

pub slice_bounds-count_corners-start : goal.slice_bounds-count_corners-start
slice_bounds-count_corners-start c = omega arith

pub slice_bounds-count_corners-end : goal.slice_bounds-count_corners-end
slice_bounds-count_corners-end c =
    let words : c.loop-i.i * c.args.nvp + c.args.nvp ≤ length c.args.polygons.now = block_fits c.loop-i.i c.args.n c.args.nvp _ c.loop-i-test.true c.requires.polygons in
    omega (arith, words)

pub count_corners-used-requires : goal.count_corners-used-requires
count_corners-used-requires c = tt

pub overflow_add-from-in-loop-i : goal.overflow_add-from-in-loop-i
overflow_add-from-in-loop-i c =
    let words : c.loop-i.i * c.args.nvp + c.args.nvp ≤ length c.args.polygons.now = block_fits c.loop-i.i c.args.n c.args.nvp _ c.loop-i-test.true c.requires.polygons in
    let few : c.count_corners-used.result ≤ c.args.nvp = let from = c.loop-i.i * c.args.nvp in
    count_most c.args.polygons.now from c.args.nvp _ _ (add-sub_cancel_left from c.args.nvp) (words) c.count_corners-used.ensures in
    omega (arith, words, few)

pub offset_bounds-polygons-from-in-loop-i : goal.offset_bounds-polygons-from-in-loop-i
offset_bounds-polygons-from-in-loop-i c =
    let words : c.loop-i.i * c.args.nvp + c.args.nvp ≤ length c.args.polygons.now = block_fits c.loop-i.i c.args.n c.args.nvp _ c.loop-i-test.true c.requires.polygons in
    omega (arith, words)

pub slice_bounds-put_polygon-count : goal.slice_bounds-put_polygon-count
slice_bounds-put_polygon-count c = omega arith

pub slice_bounds-put_polygon-start : goal.slice_bounds-put_polygon-start
slice_bounds-put_polygon-start c = omega arith

pub slice_bounds-put_polygon-end : goal.slice_bounds-put_polygon-end
slice_bounds-put_polygon-end c =
    let words : c.loop-i.i * c.args.nvp + c.args.nvp ≤ length c.args.polygons.now = block_fits c.loop-i.i c.args.n c.args.nvp _ c.loop-i-test.true c.requires.polygons in
    let few : c.count_corners-used.result ≤ c.args.nvp = let from = c.loop-i.i * c.args.nvp in
    count_most c.args.polygons.now from c.args.nvp _ _ (add-sub_cancel_left from c.args.nvp) (words) c.count_corners-used.ensures in
    omega (arith, words, few)

pub overflow_add-from-in-loop-i-2 : goal.overflow_add-from-in-loop-i-2
overflow_add-from-in-loop-i-2 c =
    let words : c.loop-i.i * c.args.nvp + c.args.nvp ≤ length c.args.polygons.now = block_fits c.loop-i.i c.args.n c.args.nvp _ c.loop-i-test.true c.requires.polygons in
    let few : c.count_corners-used.result ≤ c.args.nvp = let from = c.loop-i.i * c.args.nvp in
    count_most c.args.polygons.now from c.args.nvp _ _ (add-sub_cancel_left from c.args.nvp) (words) c.count_corners-used.ensures in
    omega (arith, words, few)

pub offset_bounds-neighbours-from : goal.offset_bounds-neighbours-from
offset_bounds-neighbours-from c =
    let links : c.loop-i.i * c.args.nvp + c.args.nvp ≤ length c.args.neighbours.now = block_fits c.loop-i.i c.args.n c.args.nvp _ c.loop-i-test.true c.requires.links in
    omega (arith, links)

pub slice_bounds-put_polygon-count-in-loop-i : goal.slice_bounds-put_polygon-count-in-loop-i
slice_bounds-put_polygon-count-in-loop-i c = omega arith

pub slice_bounds-put_polygon-start-in-loop-i : goal.slice_bounds-put_polygon-start-in-loop-i
slice_bounds-put_polygon-start-in-loop-i c = omega arith

pub slice_bounds-put_polygon-end-in-loop-i : goal.slice_bounds-put_polygon-end-in-loop-i
slice_bounds-put_polygon-end-in-loop-i c =
    let words : c.loop-i.i * c.args.nvp + c.args.nvp ≤ length c.args.polygons.now = block_fits c.loop-i.i c.args.n c.args.nvp _ c.loop-i-test.true c.requires.polygons in
    let links : c.loop-i.i * c.args.nvp + c.args.nvp ≤ length c.args.neighbours.now = block_fits c.loop-i.i c.args.n c.args.nvp _ c.loop-i-test.true c.requires.links in
    let few : c.count_corners-used.result ≤ c.args.nvp = let from = c.loop-i.i * c.args.nvp in
    count_most c.args.polygons.now from c.args.nvp _ _ (add-sub_cancel_left from c.args.nvp) (words) c.count_corners-used.ensures in
    omega (arith, links, few)

pub put_polygon-to-requires : goal.put_polygon-to-requires
put_polygon-to-requires c =
    let words : c.loop-i.i * c.args.nvp + c.args.nvp ≤ length c.args.polygons.now = block_fits c.loop-i.i c.args.n c.args.nvp _ c.loop-i-test.true c.requires.polygons in
    let lent : let i = c.loop-i.i in
    let from = i * c.args.nvp in
    let j = from + c.count_corners-used.result - from in
    polygon_text (get_or c.args.regions.now i 0) (get_or c.args.codes.now i 0) (view c.args.polygons.now from j) (view c.args.neighbours.now from j)
    ≡ polygon_row c.args.nvp c.args.polygons.now c.args.neighbours.now c.args.regions.now c.args.codes.now i = let i = c.loop-i.i in
    let from = i * c.args.nvp in
    row_printed c.args.nvp c.args.polygons.now c.args.neighbours.now c.args.regions.now c.args.codes.now i _ c.count_corners-used.result _
    (add-sub_cancel_left from c.args.nvp) (add-sub_cancel_left from c.count_corners-used.result) (words) c.count_corners-used.ensures in
    rw (lent) (pieces_room c.loop-i.invariant c.loop-i-test.true)

pub loop-i-preserved : goal.loop-i-preserved
loop-i-preserved c =
    let words : c.loop-i.i * c.args.nvp + c.args.nvp ≤ length c.args.polygons.now = block_fits c.loop-i.i c.args.n c.args.nvp _ c.loop-i-test.true c.requires.polygons in
    let lent : let i = c.loop-i.i in
    let from = i * c.args.nvp in
    let j = from + c.count_corners-used.result - from in
    polygon_text (get_or c.args.regions.now i 0) (get_or c.args.codes.now i 0) (view c.args.polygons.now from j) (view c.args.neighbours.now from j)
    ≡ polygon_row c.args.nvp c.args.polygons.now c.args.neighbours.now c.args.regions.now c.args.codes.now i = let i = c.loop-i.i in
    let from = i * c.args.nvp in
    row_printed c.args.nvp c.args.polygons.now c.args.neighbours.now c.args.regions.now c.args.codes.now i _ c.count_corners-used.result _
    (add-sub_cancel_left from c.args.nvp) (add-sub_cancel_left from c.count_corners-used.result) (words) c.count_corners-used.ensures in
    pieces_more c.loop-i.invariant c.loop-i-test.true (printed_as c.put_polygon-to.ensures (lent))

pub returns : goal.returns
returns c = pieces_all c.loop-i.invariant c.loop-i-test.false
