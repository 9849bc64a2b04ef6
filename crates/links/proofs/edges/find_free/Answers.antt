use native.Mathlib.Omega.{arith}
use Rattle.links.proofs.Walks.{search_first, search_none, search_in, search_found, search_next, search_less, free_made}
use Rattle.links.proofs.edges.find_free.Goals as goal

pub loop-link-init : goal.loop-link-init
loop-link-init c = search_first c.args.work.now c.args.t c.args.nv c.args.ne c.requires.0 c.args.low c.args.high c.requires.1 c.link_at-link.ensures

pub load_edge-requires : goal.load_edge-requires
load_edge-requires c = (
  omega (arith, c.requires.0.room.edges, c.requires.0.room.nexts),
  search_in c.args.work.now c.args.t c.args.nv c.args.ne c.requires.0 c.args.low
      c.args.high c.loop-link.invariant c.loop-link-test.true,
)

pub overflow_add-t-in-loop-link : goal.overflow_add-t-in-loop-link
overflow_add-t-in-loop-link c =
    record {
      fits = omega (
        arith,
        search_in c.args.work.now c.args.t c.args.nv c.args.ne c.requires.0 c.args.low c.args.high c.loop-link.invariant
            c.loop-link-test.true,
        c.requires.0.room.nexts,
      );
    }

pub link_at-link-requires-in-loop-link : goal.link_at-link-requires-in-loop-link
link_at-link-requires-in-loop-link c =
    omega (
      arith,
      search_in c.args.work.now c.args.t c.args.nv c.args.ne c.requires.0 c.args.low c.args.high c.loop-link.invariant c.loop-link-test.true,
      c.requires.0.room.nexts,
    )

pub loop-link-smaller : goal.loop-link-smaller
loop-link-smaller c =
    search_less c.args.work.now c.args.t c.args.nv c.args.ne c.requires.0 c.args.low c.args.high c.loop-link.invariant c.loop-link-test.true
    c.link_at-link-in-loop-link.ensures

pub loop-link-preserved : goal.loop-link-preserved
loop-link-preserved c =
    search_next c.args.work.now c.args.t c.args.nv c.args.ne c.requires.0 c.args.low c.args.high c.loop-link.invariant c.loop-link-test.true
    c.link_at-link-in-loop-link.ensures
    (free_made c.args.low c.args.high c.load_edge.ensures c.is_free.ensures c.if-is_free.false)

pub returns : goal.returns
returns c =
    search_none c.args.work.now c.args.t c.args.nv c.args.ne c.requires.0 c.args.low c.args.high c.loop-link.invariant
    c.loop-link-test.false

pub returns-then-is_free : goal.returns-then-is_free
returns-then-is_free c =
    search_found c.args.work.now c.args.t c.args.nv c.args.ne c.requires.0 c.args.low c.args.high c.loop-link.invariant c.loop-link-test.true
    (free_made c.args.low c.args.high c.load_edge.ensures c.is_free.ensures c.if-is_free.true)
