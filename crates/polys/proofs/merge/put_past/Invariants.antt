-- `polys::merge::put_past` meets its contract: after i turns the first i corners past the side are written. Assumes nothing.
use Prim.Native.Nat.{◌-◌}
use Rattle.mem.specs.Tab.{Filled}
use Rattle.records.specs.Values.{corners_of}
use Rattle.polys.proofs.Joins.{past}
use Rattle.polys.proofs.merge.put_past.Given as goal

abbrev pub invariant-loop-i : goal.invariant-loop-i
invariant-loop-i l = Filled l.initial.d l.at (past (corners_of l.p) l.e) (l.p.n - 1) l.d l.i
