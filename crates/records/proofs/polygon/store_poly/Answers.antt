-- `records::polygon::store_poly` meets its contract: its words are written part by part. Assumes nothing.
use Rattle.std.proofs.Common.{refl, rules}
use Rattle.records.specs.Polygons.{stored_poly}
use Rattle.records.proofs.polygon.store_poly.Goals as goal

pub returns : goal.returns
returns c =
    stored_poly c.args.work.now c.args.at c.args.p (search rules) c.copy_from_slice.ensures.after refl (c.fill.ensures.after (λ y e. e)) c.requires.0
