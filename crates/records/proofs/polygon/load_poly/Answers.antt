-- `records::polygon::load_poly` meets its contract: the corners that count are copied over blank ones. Assumes nothing.
use Rattle.std.proofs.Common.{refl}
use Rattle.records.specs.Polygons.{loaded_made}
use Rattle.records.proofs.polygon.load_poly.Goals as goal

pub returns : goal.returns
returns c =
    loaded_made c.args.work.now c.args.at c.requires.fits refl c.requires.most c.copy_from_slice.ensures.after
