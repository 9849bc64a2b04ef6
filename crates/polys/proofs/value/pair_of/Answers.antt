-- `polys::value::pair_of` meets its contract: each arm is the definition with its test known. Assumes nothing.
use Rattle.polys.proofs.Values.{pair_made, pair_not}
use Rattle.polys.proofs.value.pair_of.Goals as goal

pub returns-then-may_join : goal.returns-then-may_join
returns-then-may_join c = pair_made _ _ _ _ _ _ _ c.may_join.ensures c.if-may_join.true c.side_length.ensures

pub returns : goal.returns
returns c = pair_not _ _ _ _ _ _ _ c.may_join.ensures c.if-may_join.false c.no_pair.ensures
