-- `sheet::heading::read_rest` meets its contract, line by line: a good line is what the lines from its place on begin with. Assumes nothing.
use mathlib.Core.Path.{refl}
use native.Mathlib.Omega.{arith}
use Rattle.rules.specs.Sheet.{cell_name, nvp_name, grid_name}
use Rattle.rules.specs.Lines.{ascii}
use Rattle.lines.specs.Exits.{found_or, refused_or}
use Rattle.lines.specs.Taken.{good_read, bad_read}
use Rattle.sheet.specs.Refusals.{number_of, line_of, refused_as}
use Rattle.sheet.specs.Reading.{headed_as, BehindIs}
use Rattle.sheet.proofs.Headings.{CellGood, NvpGood, GridGood, cell_most_lem, nvp_most, grid_most, cell_bad, nvp_bad, grid_bad, grid_good, all_behind}
use Rattle.sheet.proofs.heading.read_rest.Goals as goal

pub returns-in_err-cell : goal.returns-in_err-cell
unfolding headed_as BehindIs refused_as number_of line_of cell_name ascii
returns-in_err-cell c =
    let a = c.args in
    let none = refused_or _ _ _ c.ok_or.ensures.value c.in_err-cell.was c.from_residual.ensures.1 in
    rw none.1 (cell_bad a.text.now a.from a.inches (bad_read _ _ _ _ _ (c.read_line.ensures.whole refl) none.0), Prim.tt)

pub read_line-requires-2 : goal.read_line-requires-2
unfolding cell_name ascii
read_line-requires-2 c =
    let cell-line : CellGood c.args.text.now c.args.from c.in_ok-cell.cell =
    good_read _ _ _ _ _ (c.read_line.ensures.whole refl) (found_or _ _ c.ok_or.ensures.value c.in_ok-cell.was) in
    (omega arith, (cell-line.within, omega arith))

pub returns-in_err-limit : goal.returns-in_err-limit
unfolding headed_as BehindIs refused_as number_of line_of cell_name nvp_name ascii
returns-in_err-limit c =
    let a = c.args in
    let cell-line : CellGood a.text.now a.from c.in_ok-cell.cell =
    good_read _ _ _ _ _ (c.read_line.ensures.whole refl) (found_or _ _ c.ok_or.ensures.value c.in_ok-cell.was) in
    let none = refused_or _ _ _ c.ok_or-2.ensures.value c.in_err-limit.was c.from_residual-in_err-limit.ensures.1 in
    rw none.1 (nvp_bad a.text.now a.from a.inches cell-line (bad_read _ _ _ _ _ (c.read_line-2.ensures.whole refl) none.0), Prim.tt)

pub read_line-requires-3 : goal.read_line-requires-3
unfolding nvp_name ascii
read_line-requires-3 c =
    let nvp-line : NvpGood c.args.text.now c.in_ok-cell.cell.next c.in_ok-limit.limit =
    good_read _ _ _ _ _ (c.read_line-2.ensures.whole refl) (found_or _ _ c.ok_or-2.ensures.value c.in_ok-limit.was) in
    (omega arith, (nvp-line.within, omega arith))

pub returns-in_err-grid : goal.returns-in_err-grid
unfolding headed_as BehindIs refused_as number_of line_of cell_name nvp_name grid_name ascii
returns-in_err-grid c =
    let a = c.args in
    let cell-line : CellGood a.text.now a.from c.in_ok-cell.cell =
    good_read _ _ _ _ _ (c.read_line.ensures.whole refl) (found_or _ _ c.ok_or.ensures.value c.in_ok-cell.was) in
    let nvp-line : NvpGood a.text.now c.in_ok-cell.cell.next c.in_ok-limit.limit =
    good_read _ _ _ _ _ (c.read_line-2.ensures.whole refl) (found_or _ _ c.ok_or-2.ensures.value c.in_ok-limit.was) in
    let none = refused_or _ _ _ c.ok_or-3.ensures.value c.in_err-grid.was c.from_residual-in_err-grid.ensures.1 in
    rw none.1 (grid_bad a.text.now a.from a.inches cell-line nvp-line (bad_read _ _ _ _ _ (c.read_line-3.ensures.whole refl) none.0), Prim.tt)

pub overflow_cast-result : goal.overflow_cast-result
unfolding cell_name ascii
overflow_cast-result c =
    let cell-line : CellGood c.args.text.now c.args.from c.in_ok-cell.cell =
    good_read _ _ _ _ _ (c.read_line.ensures.whole refl) (found_or _ _ c.ok_or.ensures.value c.in_ok-cell.was) in
    record { fits = omega (arith, cell_most_lem cell-line) }

pub overflow_cast-result-2 : goal.overflow_cast-result-2
unfolding cell_name ascii
overflow_cast-result-2 c =
    let cell-line : CellGood c.args.text.now c.args.from c.in_ok-cell.cell =
    good_read _ _ _ _ _ (c.read_line.ensures.whole refl) (found_or _ _ c.ok_or.ensures.value c.in_ok-cell.was) in
    record { fits = omega (arith, cell_most_lem cell-line) }

pub overflow_cast-result-3 : goal.overflow_cast-result-3
unfolding nvp_name ascii
overflow_cast-result-3 c =
    let nvp-line : NvpGood c.args.text.now c.in_ok-cell.cell.next c.in_ok-limit.limit =
    good_read _ _ _ _ _ (c.read_line-2.ensures.whole refl) (found_or _ _ c.ok_or-2.ensures.value c.in_ok-limit.was) in
    record { fits = omega (arith, nvp_most nvp-line) }

pub overflow_cast-result-4 : goal.overflow_cast-result-4
unfolding grid_name ascii
overflow_cast-result-4 c =
    let grid-line : GridGood c.args.text.now c.in_ok-limit.limit.next c.in_ok-grid.grid =
    good_read _ _ _ _ _ (c.read_line-3.ensures.whole refl) (found_or _ _ c.ok_or-3.ensures.value c.in_ok-grid.was) in
    record { fits = omega (arith, grid_most grid-line) }

pub overflow_cast-result-5 : goal.overflow_cast-result-5
unfolding grid_name ascii
overflow_cast-result-5 c =
    let grid-line : GridGood c.args.text.now c.in_ok-limit.limit.next c.in_ok-grid.grid =
    good_read _ _ _ _ _ (c.read_line-3.ensures.whole refl) (found_or _ _ c.ok_or-3.ensures.value c.in_ok-grid.was) in
    record { fits = omega (arith, grid_most grid-line) }

pub overflow_cast-result-6 : goal.overflow_cast-result-6
unfolding grid_name ascii
overflow_cast-result-6 c =
    let grid-line : GridGood c.args.text.now c.in_ok-limit.limit.next c.in_ok-grid.grid =
    good_read _ _ _ _ _ (c.read_line-3.ensures.whole refl) (found_or _ _ c.ok_or-3.ensures.value c.in_ok-grid.was) in
    record { fits = omega (arith, grid_most grid-line) }

pub returns : goal.returns
unfolding cell_name ascii nvp_name grid_name
returns c =
    let a = c.args in
    let cell-line : CellGood a.text.now a.from c.in_ok-cell.cell =
    good_read _ _ _ _ _ (c.read_line.ensures.whole refl) (found_or _ _ c.ok_or.ensures.value c.in_ok-cell.was) in
    let nvp-line : NvpGood a.text.now c.in_ok-cell.cell.next c.in_ok-limit.limit =
    good_read _ _ _ _ _ (c.read_line-2.ensures.whole refl) (found_or _ _ c.ok_or-2.ensures.value c.in_ok-limit.was) in
    let grid-line : GridGood a.text.now c.in_ok-limit.limit.next c.in_ok-grid.grid =
    good_read _ _ _ _ _ (c.read_line-3.ensures.whole refl) (found_or _ _ c.ok_or-3.ensures.value c.in_ok-grid.was) in
    (grid_good a.text.now a.from a.inches cell-line nvp-line grid-line, all_behind a.text.now a.from a.inches cell-line nvp-line grid-line)
