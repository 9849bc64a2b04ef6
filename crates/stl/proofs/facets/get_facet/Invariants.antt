-- `stl::facets::get_facet` meets its contract: the loop fills word after word with the patterns of the facet. Assumes nothing.
use Prim.Native.Nat.{◌+◌, ◌*◌}
use Rattle.mem.specs.Slice.{view}
use Rattle.mem.specs.Tab.{Filled}
use Rattle.rules.specs.Stl.{from_little}
use Rattle.stl.proofs.facets.get_facet.Given as goal

abbrev pub invariant-loop-i : goal.invariant-loop-i
invariant-loop-i l = Filled l.initial.words l.to (λ k. from_little (view l.file (l.at + 12 + k * 4) 4)) 9 l.words l.i
