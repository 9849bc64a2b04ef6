-- `checker::check::sound_verdict` meets its contract: what the search of portals finds is the fault, and if it finds none the area decides. Assumes nothing.
use mathlib.Core.Path.{◌≡◌, refl}
use Rattle.rules.specs.Handed.{polygon_count, first_fault}
use Rattle.rules.specs.Checker.{portals_hold}
use Rattle.checker.specs.Asked.{claim_in}
use Rattle.checker.proofs.Verdicts.{portals_first, area_last, portals_found, portals_none, mesh_ready}
use Rattle.checker.proofs.check.sound_verdict.Goals as goal

pub first_bad_portals-requires : goal.first_bad_portals-requires
unfolding polygon_count
first_bad_portals-requires c = (c.requires, refl)

pub area_verdict-requires : goal.area_verdict-requires
area_verdict-requires c =
    mesh_ready c.args.mesh.now.nvp c.args.mesh.now.vertices.now c.args.mesh.now.polygons.now c.args.mesh.now.links.now c.requires

pub returns-in-Some : goal.returns-in-Some
returns-in-Some c =
    let asked = claim_in c.args.mesh.now.nvp c.args.grid.w c.args.grid.h c.args.grid.border c.args.claim c.args.mesh.now.vertices.now c.args.mesh.now.polygons.now c.args.mesh.now.links.now in
    let found : c.first_bad_portals.result ≡ first_fault (portals_hold asked) (polygon_count asked.mesh) = let a = c.args in
    portals_first a.mesh.now.nvp a.grid.w a.grid.h a.grid.border a.claim a.mesh.now.vertices.now a.mesh.now.polygons.now a.mesh.now.links.now c.first_bad_portals.ensures in
    portals_found asked found c.in-Some.is

pub returns-in-None : goal.returns-in-None
returns-in-None c =
    let asked = claim_in c.args.mesh.now.nvp c.args.grid.w c.args.grid.h c.args.grid.border c.args.claim c.args.mesh.now.vertices.now c.args.mesh.now.polygons.now c.args.mesh.now.links.now in
    let found : c.first_bad_portals.result ≡ first_fault (portals_hold asked) (polygon_count asked.mesh) = let a = c.args in
    portals_first a.mesh.now.nvp a.grid.w a.grid.h a.grid.border a.claim a.mesh.now.vertices.now a.mesh.now.polygons.now a.mesh.now.links.now c.first_bad_portals.ensures in
    let a = c.args in
    portals_none asked found c.in-None.is
    (area_last a.mesh.now.nvp a.grid.w a.grid.h a.grid.border a.claim a.mesh.now.vertices.now a.mesh.now.polygons.now a.mesh.now.links.now c.ranges.claim c.area_verdict.ensures)
