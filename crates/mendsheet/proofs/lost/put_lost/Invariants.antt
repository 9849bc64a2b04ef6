-- `mendsheet::lost::put_lost` meets its contract: the loop prints the lines one behind the other. Assumes nothing.
use lib.ListN.{length, get_or}
use Rattle.rules.specs.MendSheet.{lost_line}
use Rattle.lines.specs.Pieces.{Pieces}
use Rattle.mendsheet.specs.Print.{lost_text_of}
use Rattle.mendsheet.proofs.lost.put_lost.Given as goal

abbrev pub invariant-loop-k : goal.invariant-loop-k
invariant-loop-k l = Pieces (λ j. lost_line l.lengths (get_or l.lost j 0)) (length l.lost) (lost_text_of l.lengths l.lost) l.initial.out 0 l.out l.to l.k-index
