-- `mend::walk::walk` meets its contract: the points are passed, and then the ends are seen to. Assumes nothing.
use mathlib.Core.Path.{sym}
use lib.Seq.{length-take-le}
use Rattle.mend.proofs.Walks.{not_none, walk_none, pass_ready, take_ready, tall, walk_left}
use Rattle.mend.proofs.walk.walk.Goals as goal

pub returns-then-n-eq0 : goal.returns-then-n-eq0
returns-then-n-eq0 g c =
    walk_none g.L.Losing.writes c.args.numbers.now c.args.list.now c.args.work.now c.args.first c.args.n
    c.args.lost c.if-n-eq0.true

pub pass_all-at-requires : goal.pass_all-at-requires
pass_all-at-requires g c =
    pass_ready c.requires (not_none c.args.n c.if-n-eq0.false)

pub slice_bounds-take_ends-end-2 : goal.slice_bounds-take_ends-end-2
slice_bounds-take_ends-end-2 g c =
    let all = c.pass_all-at in
    sym (length-take-le all.result.top all.new.work (tall c.requires (not_none c.args.n c.if-n-eq0.false) all.ensures))

pub take_ends-requires : goal.take_ends-requires
take_ends-requires g c =
    take_ready c.requires (not_none c.args.n c.if-n-eq0.false) c.pass_all-at.ensures

pub returns : goal.returns
returns g c =
    walk_left c.requires (not_none c.args.n c.if-n-eq0.false) c.pass_all-at.ensures c.take_ends.ensures
