-- `links::sides::record_sides` meets its contract: the step for each side of each polygon is R6's. Assumes nothing.
use Rattle.records.specs.Layout.{edges_at, polygons_at}
use Rattle.records.specs.Polygons.{length_polygons}
use Rattle.links.proofs.Rounds.{records_all}
use Rattle.links.proofs.sides.record_sides.Goals as goal

pub returns : goal.returns
returns c =
    let e = length_polygons c.args.work.now c.args.polygons.at c.args.polygons.n in
    rw (records_all (polygons_at c.args.work.now c.args.polygons.at c.args.polygons.n) c.args.polygons.n (edges_at c.args.work.now c.args.t.edges c.args.ne) e)
    c.take_sides.ensures
