-- `polys::merge::merge_pairs` meets its contract: R4 on the polygons that are left gives what R4 on all of them gives, with rows or without. Assumes nothing.
use Rattle.polys.proofs.Rounds.{Going}
use Rattle.polys.proofs.merge.merge_pairs.Given as goal

abbrev pub invariant-loop-f : goal.invariant-loop-f
invariant-loop-f g l = Going l.initial.work l.f g.S.Search.kept l.work l.n

abbrev pub decreases-loop-f : goal.decreases-loop-f
decreases-loop-f g l = l.n
