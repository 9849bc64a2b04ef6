use mathlib.Core.Path.{◌≡◌, refl, ap}
use Prim.Native.Nat.{◌+◌, ◌-◌}
use native.Mathlib.Omega.{arith}
use lib.ListN.{length}
use Rattle.records.specs.Layout.{most_corners}
use Rattle.records.specs.Polygons.{length_corners}
use Rattle.links.proofs.Rounds.{going_begin, going_room, going_now, going_more, going_end, still_in_hand, less_after}
use borrow.Author.Rules.{rules}
use Rattle.links.proofs.sides.take_polygon.Goals as goal

pub loop-j-init : goal.loop-j-init
loop-j-init g c =
    let all : c.args.p.n - 0 ≡ c.args.p.n = omega arith in
    going_begin c.args.work.now c.args.t c.args.nv c.args.ne _ _ _ _ c.requires.0.now (omega (arith, ap g.S.Step.added all))

pub take-n-requires : goal.take-n-requires
take-n-requires g c =
    let r = c.loop-j.invariant in
    let less = less_after g.S.Step.added g.met.S.Step.adds {n = c.args.p.n - c.loop-j.j} (c.args.p.n - (c.loop-j.j + 1)) 1 (omega (arith, c.loop-j-test.true)) in (
      still_in_hand c.requires.0 (going_now c.args.work.now c.args.t c.args.nv c.args.ne _ _ _ c.requires.1 _ r),
      going_room c.args.work.now c.args.t c.args.nv c.args.ne _ _ _ c.requires.1 _ r (g.S.Step.added 1) (omega (arith, less)),
      record { below = c.loop-j-test.true; most = c.requires.2 },
    )

pub loop-j-preserved : goal.loop-j-preserved
loop-j-preserved g c =
    let long_p : length c.args.p.corners ≡ most_corners = search rules in
    let n = length_corners c.args.p (long_p) c.requires.2 in
    going_more c.args.work.now c.args.t c.args.nv c.args.ne _ _ _ c.requires.1 _ c.loop-j.invariant _ (g.S.Step.added 1) _ _ (omega (arith, n, c.loop-j-test.true)) refl
    c.take-n.ensures
    (less_after g.S.Step.added g.met.S.Step.adds (c.args.p.n - (c.loop-j.j + 1)) 1 (omega (arith, c.loop-j-test.true)))

pub returns : goal.returns
returns g c =
    let long_p : length c.args.p.corners ≡ most_corners = search rules in
    let n = length_corners c.args.p (long_p) c.requires.2 in
    going_end c.args.work.now c.args.t c.args.nv c.args.ne _ _ _ c.requires.1 _ c.loop-j.invariant _ (omega (arith, n, c.loop-j-test.false)) (omega arith)
