-- `polymesh::build::build` meets its contract: the mesh is made in the words that it uses, and all that were lent become zeros. Assumes nothing.
use mathlib.Core.Path.{sym, ◌∙◌}
use lib.Seq.{length-take-le}
use Rattle.polymesh.proofs.Gathers.{admitted_sized}
use Rattle.polymesh.proofs.Builds.{used_fits, make_ready, made_built}
use Rattle.polymesh.proofs.build.build.Goals as goal

pub used_words-n-requires : goal.used_words-n-requires
used_words-n-requires c = admitted_sized c.requires.1.job

pub slice_bounds-make_mesh-end : goal.slice_bounds-make_mesh-end
slice_bounds-make_mesh-end c = used_fits c.requires.1 c.used_words-n.ensures

pub slice_bounds-make_mesh-end-2 : goal.slice_bounds-make_mesh-end-2
slice_bounds-make_mesh-end-2 c = sym (length-take-le _ c.args.work.now (used_fits c.requires.1 c.used_words-n.ensures))

pub make_mesh-reply-requires : goal.make_mesh-reply-requires
make_mesh-reply-requires c = let n = c.used_words-n.ensures in (c.requires.0, make_ready c.requires.1 _ (length-take-le _ c.args.work.now (used_fits c.requires.1 n) ∙ n))

pub returns : goal.returns
returns c =
    let f = used_fits c.requires.1 c.used_words-n.ensures in
    made_built c.requires.1 _ c.make_mesh-reply.ensures c.make_mesh-reply.new.work _ (c.make_mesh-reply.auto.work ∙ length-take-le _ c.args.work.now f) f c.wipe.ensures
