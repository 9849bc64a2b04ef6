-- `polys::merge::merge_polys` meets its contract: up to three corners nothing is merged, and the rows' room is wiped. Assumes nothing.
use Rattle.polys.proofs.Rounds.{merged_none}
use Rattle.polys.proofs.merge.merge_polys.Goals as goal

pub returns-then-nvp-le3 : goal.returns-then-nvp-le3
returns-then-nvp-le3 c =
    merged_none (record { vertices = c.args.vertices; polygons = c.args.polygons; nvp = c.args.nvp; rows = c.args.ro }) c.requires.rows c.requires.tidy c.if-nvp-le3.true c.fill.ensures
