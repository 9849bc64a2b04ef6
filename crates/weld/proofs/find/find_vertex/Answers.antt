use Rattle.std.proofs.Common.{sym, refl, ◌∙◌, arith, rules}
use Rattle.records.specs.Layout.{vertices_at}
use Rattle.weld.proofs.Walks.{agreed_none, agreed_more, walk_first, walk_none, step_fits, step_link, step_less, step_on, step_found}
use Rattle.weld.proofs.find.find_vertex.Goals as goal

-- src/find.rt:59:5
pub search-init : goal.search-init
search-init c = (walk_first c.args.work.now c.args.t c.args.nv c.requires c.args.height c.args.v c.compute_vertex_hash.ensures.0 c.link_at-link.ensures, refl)

-- src/find.rt:61:31
pub overflow_mul-at : goal.overflow_mul-at
overflow_mul-at c = record {
  fits = omega (
    arith,
    step_fits c.args.work.now c.args.t c.args.nv c.requires c.args.height c.args.v c.search.invariant.0
        (search rules),
  );
}

-- src/find.rt:61:18
pub overflow_add-at : goal.overflow_add-at
overflow_add-at c = record {
  fits = omega (
    arith,
    step_fits c.args.work.now c.args.t c.args.nv c.requires c.args.height c.args.v c.search.invariant.0
        c.search-test.true,
  );
}

-- src/find.rt:62:30
pub overflow_add-t-in-search : goal.overflow_add-t-in-search
overflow_add-t-in-search c =
    record {
      fits = omega (
        arith,
        step_link c.args.work.now c.args.t c.args.nv c.requires c.args.height c.args.v c.search.invariant.0
            c.search-test.true,
      );
    }

-- src/find.rt:62:9
pub link_at-link-requires-in-search : goal.link_at-link-requires-in-search
link_at-link-requires-in-search c = step_link c.args.work.now c.args.t c.args.nv c.requires c.args.height c.args.v c.search.invariant.0 c.search-test.true

-- src/find.rt:64:9
pub loop-c-init : goal.loop-c-init
loop-c-init c =
    (agreed_none _ _ _, step_fits c.args.work.now c.args.t c.args.nv c.requires c.args.height c.args.v c.search.invariant.0 c.search-test.true)

-- src/find.rt:64:9
pub loop-c-preserved : goal.loop-c-preserved
loop-c-preserved c = (agreed_more _ _ _ c.loop-c.invariant.0 c.loop-c-test.true (sym c.agrees.ensures ∙ c.if-not-agrees.false), c.loop-c.invariant.1)

-- src/find.rt:59:5
pub search-smaller : goal.search-smaller
search-smaller c =
    step_less c.args.work.now c.args.t c.args.nv c.requires c.args.height c.args.v c.search.invariant.0 c.search-test.true c.link_at-link-in-search.ensures

-- src/find.rt:59:5
pub search-preserved : goal.search-preserved
search-preserved c = (
  step_on c.args.work.now c.args.t c.args.nv c.requires c.args.height c.args.v c.search.invariant.0 c.search-test.true
      c.loop-c.invariant.0 c.link_at-link-in-search.ensures c.loop-c-test.true (sym c.agrees.ensures ∙ c.if-not-agrees.true),
  c.search.invariant.1,
)

-- src/find.rt:53:1
pub returns-after-search : goal.returns-after-search
returns-after-search c =
    c.search.invariant.1 ∙ walk_none c.args.height (vertices_at c.args.work.now c.args.t.vertices c.args.nv) c.args.v c.args.nv c.search.invariant.0
    c.search-test.false

-- src/find.rt:53:1
pub returns-after-loop-c : goal.returns-after-loop-c
returns-after-loop-c c =
    step_found c.args.work.now c.args.t c.args.nv c.requires c.args.height c.args.v c.search.invariant.0 c.search-test.true c.loop-c.invariant.0
    c.loop-c-test.false
