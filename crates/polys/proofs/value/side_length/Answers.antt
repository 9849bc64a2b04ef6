-- `polys::value::side_length` meets its contract: the two places are those of the side's ends. Assumes nothing.
use Rattle.records.specs.Corners.{from_next}
use Rattle.polys.proofs.value.side_length.Goals as goal

pub place_from-b-requires : goal.place_from-b-requires
place_from-b-requires c = (c.requires.0, c.requires.1, from_next c.requires.2 _ _ c.count_from.ensures c.next.ensures)

pub returns : goal.returns
returns c =
    rw (
      c.length_squared.ensures,
      c.place_from-b.ensures.0,
      c.place_from-a.ensures.0,
      c.next.ensures,
      c.count_from.ensures,
    )
