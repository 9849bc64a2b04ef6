-- `polymesh::build::gather_mesh` meets its contract: the mesh that the contours leave is what the removals ask for, and each way out is one of the rules'. Assumes nothing.
use Rattle.std.proofs.lemmas.Result.{err_from_is_err_and}
use mathlib.Core.Path.{refl, sym, ◌∙◌}
use Rattle.checks.specs.Answers.{no_grid}
use Rattle.contours.specs.Gathering.{same_contours}
use Rattle.polymesh.proofs.Gathers.{admitted_sized, gather_ready, came, was_no_ear, no_ear_in_contour, try_came, stuck_came, left_came}
use Rattle.polymesh.proofs.build.gather_mesh.Goals as goal

pub ground-requires : goal.ground-requires
ground-requires c = admitted_sized (c.requires no_grid).job

pub add_contours-requires : goal.add_contours-requires
add_contours-requires c = rw c.ground.ensures (gather_ready (c.requires no_grid) c.wipe.ensures)

pub returns-in_err-n : goal.returns-in_err-n
returns-in_err-n c = λ grid.
    let p = err_from_is_err_and c.from_residual.result c.from_residual.ensures.1 in
    let a = c.add_contours.ensures in
    rw (p.1, p.2) (no_ear_in_contour (c.requires grid) (same_contours _ _ _ _ _ _ _ _ ∙ was_no_ear _ _ (sym c.in_err-n.was ∙ a.answer))
    (c.add_contours.auto.work ∙ c.wipe.auto.work ∙ (c.requires grid).size))

pub site-requires : goal.site-requires
site-requires c = admitted_sized (c.requires no_grid).job

pub remove_all-requires : goal.remove_all-requires
remove_all-requires c =
    let r = c.requires no_grid in
    let a = c.add_contours.ensures in
    let x = came r c.wipe.auto.work c.ground.ensures a.words (sym c.in_ok-n.was ∙ a.answer) in
    rw c.site.ensures (try_came r refl x)

pub returns-in_err-left : goal.returns-in_err-left
returns-in_err-left c = λ grid.
    let p = err_from_is_err_and c.from_residual-in_err-left.result c.from_residual-in_err-left.ensures.1 in
    let r = c.requires grid in
    let a = c.add_contours.ensures in
    let x = came (c.requires no_grid) c.wipe.auto.work c.ground.ensures a.words (sym c.in_ok-n.was ∙ a.answer) in
    let d = c.remove_all.ensures in
    rw (p.1, p.2) (stuck_came r (same_contours _ _ _ _ _ _ _ _) x (rw c.site.ensures at d.words) (rw c.site.ensures at (sym c.in_err-left.was ∙ d.answer)))

pub returns : goal.returns
returns c = λ grid.
    let r = c.requires grid in
    let a = c.add_contours.ensures in
    let x = came (c.requires no_grid) c.wipe.auto.work c.ground.ensures a.words (sym c.in_ok-n.was ∙ a.answer) in
    let d = c.remove_all.ensures in
    left_came r (same_contours _ _ _ _ _ _ _ _) x (rw c.site.ensures at d.words) (rw c.site.ensures at (sym c.in_ok-left.was ∙ d.answer))
