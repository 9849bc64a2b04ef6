-- `checksheet::rows::polygon_lines` meets its contract: the corners that were read are stored, and the links' line is the next one. Assumes nothing.
use mathlib.Core.Path.{refl, ap, ◌∙◌}
use Prim.Native.Nat.{◌+◌, ◌-◌, ◌≤◌}
use native.Mathlib.Omega.{arith}
use lib.ListN.{replicate}
use Rattle.mem.specs.Slice.{view, splice}
use Rattle.rules.specs.Lines.{tab_byte, parts}
use Rattle.lines.specs.Exits.{found_or, refused_or}
use Rattle.checksheet.specs.Reading.{CornersAre}
use Rattle.checksheet.proofs.RowLines.{corners_are, corners_missed, corners_ready}
use Rattle.checksheet.proofs.PolygonLines.{polygon_open, polygon_missed, links_asked, polygon_put}
use borrow.Author.Rules.{rules}
use Rattle.checksheet.proofs.Padded.{map_same}
use Rattle.checksheet.proofs.rows.polygon_lines.Goals as goal

pub returns-then-e-text : goal.returns-then-e-text
returns-then-e-text c =
    polygon_open c.requires c.find-e.ensures.0 c.if-e-text.true

pub overflow_add-n : goal.overflow_add-n
overflow_add-n c =
    let good_line : CornersAre c.args.words (parts tab_byte (view c.args.text.now c.args.p.at (c.find-e.result - c.args.p.at)))
    c.in_ok-n.n (replicate 14 0) c.corner_cells.new.values = corners_are _ _ _ _ c.corner_cells.ensures (found_or _ _ c.ok_or.ensures.value c.in_ok-n.was) in
    let few : c.in_ok-n.n ≤ 12 = omega (arith, (good_line).few, c.requires.few) in
    record { fits = omega (arith, few) }

pub slice_bounds-put_row-end : goal.slice_bounds-put_row-end
slice_bounds-put_row-end c =
    let good_line : CornersAre c.args.words (parts tab_byte (view c.args.text.now c.args.p.at (c.find-e.result - c.args.p.at)))
    c.in_ok-n.n (replicate 14 0) c.corner_cells.new.values = corners_are _ _ _ _ c.corner_cells.ensures (found_or _ _ c.ok_or.ensures.value c.in_ok-n.was) in
    let few : c.in_ok-n.n ≤ 12 = omega (arith, (good_line).few, c.requires.few) in
    let f = few in search rules

pub put_row-requires : goal.put_row-requires
put_row-requires c =
    let good_line : CornersAre c.args.words (parts tab_byte (view c.args.text.now c.args.p.at (c.find-e.result - c.args.p.at)))
    c.in_ok-n.n (replicate 14 0) c.corner_cells.new.values = corners_are _ _ _ _ c.corner_cells.ensures (found_or _ _ c.ok_or.ensures.value c.in_ok-n.was) in
    let n = c.in_ok-n.n in
    corners_ready (good_line) refl c.requires.few c.args.i (n + 2 - 2) (omega arith) (omega arith) c.requires.room

pub link_line-requires : goal.link_line-requires
link_line-requires c =
    let good_line : CornersAre c.args.words (parts tab_byte (view c.args.text.now c.args.p.at (c.find-e.result - c.args.p.at)))
    c.in_ok-n.n (replicate 14 0) c.corner_cells.new.values = corners_are _ _ _ _ c.corner_cells.ensures (found_or _ _ c.ok_or.ensures.value c.in_ok-n.was) in
    links_asked c.requires c.find-e.ensures.0 c.if-e-text.false (good_line).few

pub returns : goal.returns
returns c =
    let good_line : CornersAre c.args.words (parts tab_byte (view c.args.text.now c.args.p.at (c.find-e.result - c.args.p.at)))
    c.in_ok-n.n (replicate 14 0) c.corner_cells.new.values = corners_are _ _ _ _ c.corner_cells.ensures (found_or _ _ c.ok_or.ensures.value c.in_ok-n.was) in
    let n = c.in_ok-n.n in
    polygon_put c.requires c.find-e.ensures.0 c.if-e-text.false (good_line) refl (n + 2 - 2) (omega arith) (c.put_row.ensures ∙ ap (splice _ _) (map_same _))
    c.link_line.ensures

pub returns-in_err-n : goal.returns-in_err-n
returns-in_err-n c =
    let none = refused_or _ _ _ c.ok_or.ensures.value c.in_err-n.was c.from_residual.ensures.1 in
    rw none.1 (polygon_missed c.requires c.find-e.ensures.0 c.if-e-text.false (corners_missed _ _ _ _ c.corner_cells.ensures none.0))
