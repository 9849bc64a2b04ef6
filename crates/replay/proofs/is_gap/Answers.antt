-- `replay::is_gap` meets its contract: it is the definition. Assumes nothing.
use Rattle.std.proofs.Common.{refl}
use Rattle.replay.specs.Sheets.{is_gap}
use Rattle.replay.proofs.is_gap.Goals as goal

pub returns : goal.returns
unfolding is_gap
returns c = refl
