-- `holes::vertices::drop_first` meets its contract: the words behind the first vertex move down, and zeros stand behind them. Assumes nothing.
use mathlib.Core.Path.{refl}
use Rattle.holes.proofs.Clears.{first_dropped}
use Rattle.holes.proofs.vertices.drop_first.Goals as goal

-- src/vertices.rt:15:1
pub returns : goal.returns
returns c =
    first_dropped c.args.part.now refl c.requires c.move_down.ensures c.fill.ensures
