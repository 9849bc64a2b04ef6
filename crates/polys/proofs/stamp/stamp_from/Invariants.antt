-- `polys::stamp::stamp_from` meets its contract: the corners that are left, from the stamp so far, give the stamp of all. Assumes nothing.
use Rattle.mem.specs.Loops.{Doing}
use Rattle.records.specs.Values.{corners_from}
use Rattle.laws.specs.Stamps.{stamp_with, stamp_of}
use Rattle.polys.proofs.stamp.stamp_from.Given as goal

abbrev pub invariant-loop-i : goal.invariant-loop-i
invariant-loop-i l = Doing (stamp_with (corners_from l.work l.at)) (stamp_of (corners_from l.work l.at)) l.n l.s l.i
