-- `links::portals::mark_polygon` meets its contract: the word of each side is written once, from what stood there before. Assumes nothing.
use Rattle.mem.specs.Slice.{view}
use Rattle.mem.specs.Tab.{Filled}
use Rattle.rules.specs.Portals.{portal_at}
use Rattle.records.specs.Layout.{vertices_at}
use Rattle.records.specs.Values.{corners_of}
use Rattle.links.proofs.portals.mark_polygon.Given as goal

abbrev pub invariant-loop-j : goal.invariant-loop-j
invariant-loop-j l = Filled l.initial.work l.at (portal_at (vertices_at l.initial.work l.g.vertices.at l.g.vertices.n) l.g.grid.w l.g.grid.h (corners_of l.p) (view l.initial.work l.at l.p.n))
    l.p.n l.work l.j
