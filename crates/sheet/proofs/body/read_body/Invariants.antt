-- `sheet::body::read_body` meets its contract. The loop's invariant is `Going`: what is left from the place now comes to what the whole comes to. The measure is the
-- bytes that are left. Assumes nothing.
use Prim.Native.Nat.{◌-◌}
use lib.ListN.{length}
use Rattle.sheet.proofs.Bodies.{Going}
use Rattle.sheet.proofs.body.read_body.Given as goal

abbrev pub invariant-loop-p : goal.invariant-loop-p
invariant-loop-p l = Going l.text l.from l.p l.lists.lengths l.lists.regions l.lists.codes l.lists.numbers

abbrev pub decreases-loop-p : goal.decreases-loop-p
decreases-loop-p l = length l.text - l.p.at
