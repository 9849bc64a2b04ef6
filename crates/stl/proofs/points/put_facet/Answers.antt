-- `stl::points::put_facet` meets its contract: a normal, three points and an attribute one behind the other are the bytes of the facet. Assumes nothing.
use Rattle.laws.proofs.StlWords.{facet_written}
use borrow.Author.Rules.{rules}
use Rattle.stl.proofs.points.put_facet.Goals as goal

pub put_point-requires : goal.put_point-requires
put_point-requires c = let p = c.requires in record { t = p.t; t_2 = p.t_2; at_in_bounds = search rules }

pub put_point-requires-2 : goal.put_point-requires-2
put_point-requires-2 c = let p = c.requires in record { t = p.t; t_2 = p.t_2; at_in_bounds = search rules }

pub put_point-requires-3 : goal.put_point-requires-3
put_point-requires-3 c = let p = c.requires in record { t = p.t; t_2 = p.t_2; at_in_bounds = search rules }

pub returns : goal.returns
returns c =
    let a = c.args in
    facet_written a.lengths.size a.lengths.height a.a a.b a.c a.out.now a.at c.put_zeros.ensures c.put_point.ensures c.put_point-2.ensures
    c.put_point-3.ensures c.put_zeros-2.ensures
