-- `stored::area::polygon_area` meets its contract: the words that are measured are the places' alone, and read back as these. Assumes nothing.
use mathlib.Core.Path.{◌∙◌}
use mir.Syntax.{w64}
use Rattle.ints.specs.Machine.{reads_result}
use Rattle.stored.proofs.Places.{words_many, words_grid, words_area}
use Rattle.stored.proofs.area.polygon_area.Goals as goal

pub slice_bounds-doubled_area-end : goal.slice_bounds-doubled_area-end
slice_bounds-doubled_area-end c = words_many c.requires c.put_places.ensures

pub doubled_area-requires : goal.doubled_area-requires
doubled_area-requires c = words_grid c.requires c.put_places.ensures

pub returns : goal.returns
returns c =
    (reads_result {w = w64} (record { sfits = c.doubled_area.type_inv })
    (c.doubled_area.ensures ∙ words_area c.requires c.put_places.ensures)).reads
