use Rattle.holes.proofs.Clears.{left_ready, cleared}
use Rattle.holes.proofs.clear.clear_polygons.Goals as goal

pub drop_numbers-requires : goal.drop_numbers-requires
drop_numbers-requires c = left_ready c.requires c.take_out-m.ensures

pub returns : goal.returns
returns c = cleared c.requires c.take_out-m.ensures c.drop_numbers.ensures
