use Rattle.weld.proofs.Puts.{numbered}
use Rattle.weld.proofs.add.weld_vertex.Goals as goal

-- src/add.rt:77:5
pub mark_vertex-requires : goal.mark_vertex-requires
mark_vertex-requires c =
    let n = numbered c.args.height c.args.work.now c.args.t c.args.nv c.args.v c.args.flag c.requires.0 c.requires.1 c.add_vertex-k.ensures in
    rw c.grow.ensures (n.now, n.below)

-- src/add.rt:65:1
pub returns : goal.returns
returns c =
    let n = numbered c.args.height c.args.work.now c.args.t c.args.nv c.args.v c.args.flag c.requires.0 c.requires.1 c.add_vertex-k.ensures in
    n.welded (rw c.grow.ensures at c.mark_vertex.ensures)
