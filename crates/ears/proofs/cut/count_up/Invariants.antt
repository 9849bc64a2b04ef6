-- `ears::cut::count_up` meets its contract: the loop's invariant is `Filled`, that the numbers below k are written; the measure is what is left of
-- the slice. Assumes nothing.
use Prim.Native.Nat.{◌-◌}
use lib.ListN.{length}
use Rattle.mem.specs.Tab.{Filled}
use Rattle.ears.proofs.cut.count_up.Given as goal

abbrev pub invariant-loop-k : goal.invariant-loop-k
invariant-loop-k l = Filled l.initial.ix 0 (λ j. j) (length l.initial.ix) l.ix l.k
