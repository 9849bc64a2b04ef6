-- `polys::merge::merge_poly_verts` meets its contract: the corners past the side of each, one after the other. Assumes nothing.
use borrow.Author.Rules.{rules}
use Rattle.polys.proofs.Joins.{join_made}
use Rattle.polys.proofs.merge.merge_poly_verts.Goals as goal

pub returns : goal.returns
returns c =
    join_made c.args.p c.args.q c.args.ea c.args.eb (search rules) (search rules) c.requires.0 c.requires.1 c.requires.2
    c.put_past-c.ensures c.put_past.ensures c.joined_region.ensures
