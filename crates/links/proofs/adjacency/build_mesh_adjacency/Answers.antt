use mathlib.Core.Path.{refl}
use Rattle.links.proofs.Stores.{linking_begin, linking_ready, linking_more, linking_end, links_ready, links_made}
use Rattle.links.proofs.adjacency.build_mesh_adjacency.Goals as goal

pub loop-k-init : goal.loop-k-init
loop-k-init c =
    let l = links_ready c.requires c.link_sides-ne.ensures c.fill.ensures in
    (l, linking_begin l, refl)

pub store_links-requires : goal.store_links-requires
store_links-requires c = linking_ready c.loop-k.invariant.0 _ c.loop-k.invariant.1 c.loop-k-test.true

pub loop-k-preserved : goal.loop-k-preserved
loop-k-preserved c =
    let g = linking_more c.loop-k.invariant.0 _ c.loop-k.invariant.1 c.loop-k-test.true c.store_links.ensures in
    (c.loop-k.invariant.0, g, g.size)

pub returns : goal.returns
returns c =
    links_made c.requires c.link_sides-ne.ensures c.fill.ensures (linking_end c.loop-k.invariant.0 _ c.loop-k.invariant.1 c.loop-k-test.false)
