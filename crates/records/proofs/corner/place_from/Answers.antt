-- `records::corner::place_from` meets its contract: a corner is one of the vertices. Assumes nothing.
use mathlib.Core.Path.{ap, ◌∙◌}
use Rattle.rules.specs.Mesh.{place_of}
use Rattle.records.specs.Corners.{from_below}
use Rattle.records.proofs.corner.place_from.Goals as goal

pub place_at-requires : goal.place_at-requires
place_at-requires c = (c.requires.0, from_below c.requires.2 c.requires.1 c.corner_from.ensures)

pub returns : goal.returns
returns c = (c.place_at.ensures.0 ∙ ap (place_of _) c.corner_from.ensures, c.place_at.ensures.1)
