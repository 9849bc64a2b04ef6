-- `polymesh::build::make_mesh` meets its contract: with a mesh it is linked and stored, without one nothing is. Assumes nothing.
use Rattle.std.proofs.lemmas.Result.{err_from_is_err_and}
use Rattle.polymesh.proofs.Gathers.{admitted_sized}
use Rattle.polymesh.proofs.Builds.{refused_exit, linkable, storable, built_exit}
use Rattle.polymesh.proofs.build.make_mesh.Goals as goal

pub gather_mesh-requires : goal.gather_mesh-requires
gather_mesh-requires c = λ any. record { size = c.requires.1.size; job = c.requires.0 any }

pub returns-in_err-built : goal.returns-in_err-built
returns-in_err-built c =
    let p = err_from_is_err_and c.from_residual.result c.from_residual.ensures.1 in
    rw (p.1, p.2) (refused_exit c.requires.1 (c.gather_mesh.ensures _) c.in_err-built.was)

pub places-at-requires : goal.places-at-requires
places-at-requires c = admitted_sized c.requires.1.job

pub link_mesh-requires : goal.link_mesh-requires
link_mesh-requires c = linkable c.requires.1 (c.gather_mesh.ensures _) c.in_ok-built.was

pub store_mesh-requires : goal.store_mesh-requires
store_mesh-requires c = storable c.requires.1 (c.gather_mesh.ensures _) c.in_ok-built.was c.link_mesh.ensures c.places-at.ensures

pub returns : goal.returns
returns c = built_exit c.requires.1 (c.gather_mesh.ensures _) c.in_ok-built.was c.link_mesh.ensures c.places-at.ensures c.store_mesh.ensures
