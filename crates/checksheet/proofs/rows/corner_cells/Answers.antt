-- `checksheet::rows::corner_cells` meets its contract: the limits are those of region, area code and as many corners as there are cells. Assumes nothing.
use mathlib.Core.Path.{◌≡◌, ap, ◌∙◌}
use Prim.Native.Nat.{◌-◌, ◌≤◌}
use native.Mathlib.Omega.{arith}
use lib.ListN.{length}
use Rattle.rules.specs.Lines.{ascii, tab_byte, parts}
use Rattle.rules.specs.Sheet.{p_name}
use Rattle.checksheet.proofs.RowLines.{corner_limits, corners_over, corners_none, corners_found}
use Rattle.checksheet.proofs.rows.corner_cells.Goals as goal

pub read_row-requires : goal.read_row-requires
read_row-requires c =
    let few : c.beyond-n.result ≤ 12 = omega (arith, c.beyond-n.ensures, c.if-cells-most.true, c.requires.few) in
    omega (arith, corner_limits c.beyond-n.result (few), few, c.requires.room)

pub returns-then-read_row : goal.returns-then-read_row
unfolding p_name ascii
returns-then-read_row c =
    let count : c.beyond-n.result ≡ length (parts tab_byte c.args.line.now) - 3 = c.beyond-n.ensures ∙ ap (λ k. k - 3) c.count_cells-cells.ensures in
    corners_found c.args.most _ (count) (omega (arith, c.if-cells-most.true, c.count_cells-cells.ensures)) c.requires.few
    c.read_row.ensures c.if-read_row.true

pub returns-else-read_row : goal.returns-else-read_row
unfolding p_name ascii
returns-else-read_row c =
    let count : c.beyond-n.result ≡ length (parts tab_byte c.args.line.now) - 3 = c.beyond-n.ensures ∙ ap (λ k. k - 3) c.count_cells-cells.ensures in
    corners_none c.args.most _ (count) (omega (arith, c.if-cells-most.true, c.count_cells-cells.ensures)) c.requires.few
    c.read_row.ensures c.if-read_row.false

pub returns-else-cells-most : goal.returns-else-cells-most
returns-else-cells-most c = corners_over c.args.most _ _ _ (omega (arith, c.if-cells-most.false, c.count_cells-cells.ensures))
