-- `holes::clear::drop_corners` meets its contract: the first j corners have dropped, and the others are as they were. Assumes nothing.
use Prim.Native.Nat.{◌+◌}
use lib.ListN.{get_or}
use Rattle.mem.specs.Tab.{Filled}
use Rattle.rules.specs.Removal.{dropped}
use Rattle.records.specs.Values.{corners_from}
use Rattle.holes.proofs.clear.drop_corners.Given as goal

abbrev pub invariant-loop-j : goal.invariant-loop-j
invariant-loop-j l = Filled l.initial.work (l.at + 3) (λ k. dropped l.rem (get_or (corners_from l.initial.work l.at) k 0)) l.n l.work l.j
