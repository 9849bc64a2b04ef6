-- `checksheet::counts::mesh_cells` meets its contract: four cells, the last of which is behind the last tab. Assumes nothing.
use mathlib.Core.Path.{refl, sym, ◌∙◌}
use lib.Seq.{length-take-le}
use native.Mathlib.Omega.{arith}
use mir.Syntax.{w64}
use mir.Val.{SFits}
use mir.Facts.{to_z-of_z}
use Rattle.rules.specs.Lines.{ascii}
use Rattle.rules.specs.Sheet.{mesh_name}
use Rattle.checksheet.proofs.MeshLines.{other_count, last_later, counts_bad, total_bad, mesh_counted}
use borrow.Author.Rules.{rules}
use Rattle.checksheet.proofs.counts.mesh_cells.Goals as goal

pub slice_bounds-read_numbers-count : goal.slice_bounds-read_numbers-count
slice_bounds-read_numbers-count c = last_later c.last_cell-last.ensures (sym c.count_cells.ensures ∙ c.if-count_cells-eq4.true)

pub slice_bounds-read_numbers-length : goal.slice_bounds-read_numbers-length
slice_bounds-read_numbers-length c = sym (length-take-le _ _ (omega (arith, c.last_cell-last.ensures.within)))

pub returns-in_err-counts : goal.returns-in_err-counts
unfolding mesh_name ascii
returns-in_err-counts c =
    rw c.from_residual.ensures
    (counts_bad c.last_cell-last.ensures (sym c.count_cells.ensures ∙ c.if-count_cells-eq4.true) (c.read_numbers.ensures.whole refl) c.in_err-counts.was)

pub returns-in_err-total : goal.returns-in_err-total
unfolding mesh_name ascii
returns-in_err-total c =
    rw c.from_residual-in_err-total.ensures
    (total_bad c.last_cell-last.ensures (sym c.count_cells.ensures ∙ c.if-count_cells-eq4.true) (c.read_numbers.ensures.whole refl)
    c.in_ok-counts.was c.read_signed.ensures c.in_err-total.was)

pub returns-then-count_cells-eq4 : goal.returns-then-count_cells-eq4
unfolding mesh_name ascii
returns-then-count_cells-eq4 c =
    let f : SFits w64 c.in_ok-total.total = search rules in
    mesh_counted c.last_cell-last.ensures (sym c.count_cells.ensures ∙ c.if-count_cells-eq4.true) (c.read_numbers.ensures.whole refl)
    c.in_ok-counts.was c.read_signed.ensures c.in_ok-total.was (to_z-of_z f)

pub returns : goal.returns
returns c = other_count _ (λ e. c.if-count_cells-eq4.false (c.count_cells.ensures ∙ e))
