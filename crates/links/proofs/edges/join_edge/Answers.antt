-- `links::edges::join_edge` meets its contract: a record that is joined keeps its place in the chains. Assumes nothing.
use mathlib.Core.Path.{◌∙◌}
use Rattle.links.proofs.Puts.{joined_made, join_steps}
use Rattle.links.proofs.edges.join_edge.Goals as goal

pub returns : goal.returns
returns c =
    c.store_edge.ensures ∙ join_steps c.args.work.now c.args.t c.args.nv c.args.ne c.requires.0 c.args.k c.args.i c.args.j c.requires.1
    (joined_made c.args.i c.args.j c.load_edge-e.ensures)
