-- `checker::check::rows_sound` meets its contract: what the search of corners finds is the fault, and if it finds none the links decide. Assumes nothing.
use mathlib.Core.Path.{◌≡◌, refl, ◌∙◌}
use native.Mathlib.Omega.{arith}
use Rattle.rules.specs.declared.Fault.TheVariants.{BadCorners}
use Rattle.rules.specs.Handed.{polygon_count, first_fault, corners_hold}
use Rattle.checker.specs.Asked.{handed_in}
use Rattle.checker.proofs.Lent.{rows_ready, links_ready}
use Rattle.checker.proofs.Verdicts.{fault_found, none_found, links_then, rows_fit, corners_first}
use Rattle.checker.proofs.check.rows_sound.Goals as goal

pub nonzero_div-np : goal.nonzero_div-np
nonzero_div-np c = omega (arith, c.requires.nvp_low)

pub first_bad_corners-requires : goal.first_bad_corners-requires
first_bad_corners-requires c =
    rows_fit c.args.mesh.now.nvp c.args.mesh.now.vertices.now c.args.mesh.now.polygons.now c.args.mesh.now.links.now c.requires

pub links_sound-requires : goal.links_sound-requires
unfolding polygon_count
links_sound-requires c =
    (links_ready c.args.mesh.now.nvp c.args.mesh.now.vertices.now c.args.mesh.now.polygons.now c.args.mesh.now.links.now (rows_ready c.requires), refl)

pub returns-in-Some : goal.returns-in-Some
returns-in-Some c =
    let m = handed_in c.args.mesh.now.nvp c.args.mesh.now.vertices.now c.args.mesh.now.polygons.now c.args.mesh.now.links.now in
    let found : let m = m in
    c.first_bad_corners.result ≡ first_fault (corners_hold m) (polygon_count m) = corners_first c.args.mesh.now.nvp c.args.mesh.now.vertices.now c.args.mesh.now.polygons.now
    c.args.mesh.now.links.now c.requires c.first_bad_corners.ensures in
    fault_found BadCorners _ found c.in-Some.is

pub returns-in-None : goal.returns-in-None
returns-in-None c =
    let m = handed_in c.args.mesh.now.nvp c.args.mesh.now.vertices.now c.args.mesh.now.polygons.now c.args.mesh.now.links.now in
    let found : let m = m in
    c.first_bad_corners.result ≡ first_fault (corners_hold m) (polygon_count m) = corners_first c.args.mesh.now.nvp c.args.mesh.now.vertices.now c.args.mesh.now.polygons.now
    c.args.mesh.now.links.now c.requires c.first_bad_corners.ensures in
    links_then c.args.mesh.now.nvp c.args.mesh.now.vertices.now c.args.mesh.now.polygons.now c.args.mesh.now.links.now c.links_sound.ensures
    ∙ none_found BadCorners _ found c.in-None.is
