-- `checksheet::padding::put_row` meets its contract: the numbers one by one, and none behind them. Assumes nothing.
use lib.ListN.{length, get_or}
use Rattle.mem.specs.Tab.{Filled}
use Rattle.checksheet.proofs.padding.put_row.Given as goal

abbrev pub invariant-loop-i : goal.invariant-loop-i
invariant-loop-i g l = Filled l.initial.row l.at (λ k. g.T.Word.word (get_or l.values k 0)) (length l.values) l.row l.i
