use native.Mathlib.Omega.{arith}
use Rattle.links.proofs.Marks.{marking_begin, marking_small, marking_hand, marking_more, marking_end, unmarked}
use Rattle.links.proofs.portals.mark_portals.Goals as goal

pub returns-then-grid-eq0 : goal.returns-then-grid-eq0
returns-then-grid-eq0 c =
    unmarked c.args.work.now c.args.vertices.at c.args.vertices.n c.args.polygons.at c.args.polygons.n c.args.lo c.args.grid.w c.args.grid.h c.requires c.args.grid.border c.if-grid-eq0.true

pub loop-i-init : goal.loop-i-init
loop-i-init c =
    marking_begin c.args.work.now c.args.vertices.at c.args.vertices.n c.args.polygons.at c.args.polygons.n c.args.lo c.args.grid.w c.args.grid.h c.requires

pub load_at-p-requires : goal.load_at-p-requires
load_at-p-requires c =
    let g = c.loop-i.invariant in (
      omega (arith, g.size, c.requires.polygons, c.requires.links),
      c.loop-i-test.true,
      marking_small c.args.work.now c.args.vertices.at c.args.vertices.n c.args.polygons.at c.args.polygons.n
          c.args.lo c.args.grid.w c.args.grid.h c.requires _ g c.loop-i-test.true,
    )

pub mark_polygon-requires : goal.mark_polygon-requires
mark_polygon-requires c =
    marking_hand c.args.work.now c.args.vertices.at c.args.vertices.n c.args.polygons.at c.args.polygons.n c.args.lo c.args.grid.w c.args.grid.h c.requires _ c.loop-i.invariant c.loop-i-test.true
    c.load_at-p.ensures

pub loop-i-preserved : goal.loop-i-preserved
loop-i-preserved c =
    marking_more c.args.work.now c.args.vertices.at c.args.vertices.n c.args.polygons.at c.args.polygons.n c.args.lo c.args.grid.w c.args.grid.h c.requires _ c.loop-i.invariant c.loop-i-test.true
    c.load_at-p.ensures c.mark_polygon.ensures

pub returns : goal.returns
returns c =
    marking_end c.args.work.now c.args.vertices.at c.args.vertices.n c.args.polygons.at c.args.polygons.n c.args.lo c.args.grid.w c.args.grid.h c.requires _ c.loop-i.invariant c.args.grid.border
    c.loop-i-test.false c.if-grid-eq0.false
