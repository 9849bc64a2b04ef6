use Prim.Native.Nat.{◌<◌}
use mathlib.Core.Path.{◌≡◌, sym, ◌∙◌}
use native.Mathlib.Omega.{arith}
use lib.ListN.{length}
use Rattle.rules.specs.Merge.{is_equal}
use Rattle.records.specs.Values.{corners_from}
use Rattle.polys.proofs.Sides.{from_start, from_more, row_none, row_hit, row_end, equal_made}
use Rattle.polys.proofs.side.shared_by.Goals as goal

pub returns-then-n-eq0 : goal.returns-then-n-eq0
returns-then-n-eq0 c = row_none _ _ _ (sym c.count_from-n.ensures ∙ c.if-n-eq0.true)

pub loop-j-init : goal.loop-j-init
loop-j-init c = from_start _ _ _ c.corner_from-c.ensures

pub returns-then-is_equal : goal.returns-then-is_equal
returns-then-is_equal c =
    let within : c.loop-j.j < length ((corners_from c.args.work.now c.args.bt)) = omega (arith, c.loop-j-test.true, c.count_from-n.ensures) in
    let told : c.is_equal.result ≡ is_equal ((corners_from c.args.work.now c.args.at)) ((corners_from c.args.work.now c.args.bt)) c.args.i
    c.loop-j.j = equal_made _ _ _ _ c.corner_from-a.ensures c.end_from-b.ensures (c.loop-j.invariant.start (within))
    c.end_from-d.ensures c.is_equal.ensures in
    row_hit _ _ c.loop-j.invariant.row (within) (sym (told) ∙ c.if-is_equal.true)

pub loop-j-preserved : goal.loop-j-preserved
loop-j-preserved c =
    let within : c.loop-j.j < length ((corners_from c.args.work.now c.args.bt)) = omega (arith, c.loop-j-test.true, c.count_from-n.ensures) in
    let told : c.is_equal.result ≡ is_equal ((corners_from c.args.work.now c.args.at)) ((corners_from c.args.work.now c.args.bt)) c.args.i
    c.loop-j.j = equal_made _ _ _ _ c.corner_from-a.ensures c.end_from-b.ensures (c.loop-j.invariant.start (within))
    c.end_from-d.ensures c.is_equal.ensures in
    from_more _ _ c.loop-j.invariant (within) (sym (told) ∙ c.if-is_equal.false) c.end_from-d.ensures

pub returns : goal.returns
returns c = row_end _ _ c.loop-j.invariant.row (omega (arith, c.loop-j-test.false, c.count_from-n.ensures))
