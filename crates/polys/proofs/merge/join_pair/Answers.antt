-- `polys::merge::join_pair` meets its contract: the join is written, then the last polygon in the place of the pair's second. Assumes nothing.
use borrow.Author.Rules.{rules}
use Rattle.mem.specs.Packed.{every_at}
use Rattle.rules.specs.Mesh.{no_polygon}
use Rattle.records.specs.Layout.{Small}
use Rattle.polys.proofs.Merges.{both_in, swap_ready, join_steps}
use Rattle.polys.proofs.merge.join_pair.Goals as goal

pub load_at-p-requires : goal.load_at-p-requires
load_at-p-requires c =
    let h = both_in c.requires in
    (search rules, search rules, every_at Small no_polygon _ c.requires.small _)

pub load_at-q-requires : goal.load_at-q-requires
load_at-q-requires c =
    let h = both_in c.requires in
    (search rules, search rules, every_at Small no_polygon _ c.requires.small _)

pub store_at-requires : goal.store_at-requires
store_at-requires c =
    let h = both_in c.requires in
    search rules

pub swap_remove-requires : goal.swap_remove-requires
swap_remove-requires c =
    let h = both_in c.requires in
    swap_ready c.requires c.load_at-p.ensures c.load_at-q.ensures c.merge_poly_verts-r.ensures c.store_at.ensures
    (search rules)

pub returns : goal.returns
returns c =
    join_steps c.requires c.load_at-p.ensures c.load_at-q.ensures c.merge_poly_verts-r.ensures c.store_at.ensures
    c.swap_remove.ensures
