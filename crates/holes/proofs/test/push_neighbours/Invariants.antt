-- `holes::test::push_neighbours` meets its contract: after j turns the ends on the first j sides are written, and the others are to come. Assumes nothing.
use Rattle.rules.specs.Removal.{neighbours_in}
use Rattle.records.specs.Values.{corners_of}
use Rattle.holes.proofs.Pushes.{Pushing, ends_from}
use Rattle.holes.proofs.test.push_neighbours.Given as goal

abbrev pub invariant-loop-j : goal.invariant-loop-j
invariant-loop-j l = Pushing l.initial.work l.at (neighbours_in l.rem (corners_of l.p)) (ends_from l.rem (corners_of l.p) l.p.n l.j) l.work l.k
