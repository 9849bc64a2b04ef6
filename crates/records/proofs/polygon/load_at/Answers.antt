use Rattle.records.specs.Polygons.{polygon_at_lem}
use Rattle.records.specs.Corners.{stands_at}
use borrow.Author.Rules.{rules}
use Rattle.records.proofs.polygon.load_at.Goals as goal

pub load_poly-requires : goal.load_poly-requires
load_poly-requires c = stands_at _ _ _ _ c.requires.0 c.requires.1 c.requires.2

pub returns : goal.returns
returns c =
    let g = c.args in
    rw (polygon_at_lem g.work.now g.polygons.at g.polygons.n g.i (search rules)) c.load_poly.ensures
