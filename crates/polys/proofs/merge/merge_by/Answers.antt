-- `polys::merge::merge_by` meets its contract: what the search needs is made, the polygons are merged, and the rows' room is wiped. Assumes nothing.
use Rattle.polys.proofs.Rounds.{kept_tidy, merged_rows}
use Rattle.polys.proofs.merge.merge_by.Goals as goal

pub merge_pairs-n-requires : goal.merge_pairs-n-requires
merge_pairs-n-requires g c =
    (c.begin.ensures.rows, kept_tidy c.args.f c.requires.0.rows c.requires.0.tidy c.begin.auto.work c.begin.ensures, c.requires.1)

pub returns : goal.returns
returns g c =
    merged_rows c.args.f c.requires.0.rows c.requires.0.tidy c.begin.auto.work c.begin.ensures _
    c.merge_pairs-n.ensures c.fill.ensures
