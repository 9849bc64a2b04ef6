-- `links::edges::put_edge` meets its contract: each of its three writes is the rewriting of one table. Assumes nothing.
use Rattle.links.proofs.Puts.{put_steps}
use Rattle.links.proofs.edges.put_edge.Goals as goal

pub returns : goal.returns
returns c =
    put_steps c.args.work.now c.args.t c.args.nv c.args.ne c.requires.0 c.args.e c.requires.1 c.requires.2 c.store_edge.ensures
