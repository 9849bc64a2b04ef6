-- `links::adjacency::build_mesh_adjacency` meets its contract: the links stored so far are R6's for the records so far. Assumes nothing.
use mathlib.Core.Path.{◌≡◌}
use lib.ListN.{length}
use Rattle.links.proofs.Stores.{Linkable, Linking}
use Rattle.links.proofs.adjacency.build_mesh_adjacency.Given as goal

abbrev pub invariant-loop-k : goal.invariant-loop-k
invariant-loop-k l = Linkable l.initial.work l.fn.polygons.at l.fn.polygons.n l.t l.ne l.lo × Linking l.initial.work l.fn.polygons.at l.fn.polygons.n l.t l.ne l.lo l.work l.k
    × (length l.work ≡ length l.initial.work)
