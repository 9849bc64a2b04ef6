use Rattle.std.specs.Prelude.{None}
use Rattle.std.proofs.Common.{◌≡◌, ◌+◌, ◌≤◌, length}
use Rattle.mem.specs.Slice.{view}
use Rattle.records.specs.Layout.{vertex_size, vertex_in, vertices_at}
use Rattle.weld.proofs.Walks.{Agreed, Walk}
use Rattle.weld.proofs.find.find_vertex.Given as goal

abbrev pub invariant-loop-c : goal.invariant-loop-c
invariant-loop-c l = Agreed l.height (vertex_in (view l.work l.at vertex_size)) l.v l.c × (l.at + vertex_size ≤ length l.work)

abbrev pub invariant-search : goal.invariant-search
invariant-search l = Walk l.height (vertices_at l.work l.t.vertices l.nv) l.v l.nv l.link × (l.found ≡ None)

abbrev pub decreases-search : goal.decreases-search
decreases-search l = l.link
