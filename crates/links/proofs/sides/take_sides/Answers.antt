use native.Mathlib.Omega.{arith}
use Rattle.links.proofs.Rounds.{going_begin, going_room, going_now, going_kept, going_more, going_end, less_after}
use Rattle.links.proofs.Rounds.{small_here, hand_here, made_here, count_here}
use Rattle.links.proofs.sides.take_sides.Goals as goal

pub loop-i-init : goal.loop-i-init
loop-i-init g c = going_begin c.args.work.now c.args.t c.args.nv c.args.ne _ _ _ _ c.requires.1 (omega arith)

pub load_at-p-requires : goal.load_at-p-requires
load_at-p-requires g c =
    let r = c.loop-i.invariant in
    let k = going_kept c.args.work.now c.args.t c.args.nv c.args.ne _ _ _ c.requires.2 _ r c.args.polygons.at c.args.polygons.n c.requires.0.fits in (
      omega (arith, r.size, c.requires.0.fits, c.requires.1.room.firsts, c.requires.1.room.edges, c.requires.1.room.nexts),
      c.loop-i-test.true,
      small_here c.requires.0 _ k _ c.loop-i-test.true,
    )

pub take_polygon-n-requires : goal.take_polygon-n-requires
take_polygon-n-requires g c =
    let r = c.loop-i.invariant in
    let h = c.loop-i-test.true in
    let lp = c.load_at-p.ensures in
    let k = going_kept c.args.work.now c.args.t c.args.nv c.args.ne _ _ _ c.requires.2 _ r c.args.polygons.at c.args.polygons.n c.requires.0.fits in
    let less = less_after g.S.Step.added g.met.S.Step.adds _ _ (count_here c.requires.0 _ k _ h lp) in (
      hand_here c.requires.0 _ k _ h lp (going_now c.args.work.now c.args.t c.args.nv c.args.ne _ _ _ c.requires.2 _ r),
      going_room c.args.work.now c.args.t c.args.nv c.args.ne _ _ _ c.requires.2 _ r _ (omega (arith, less)),
      lp.most,
    )

pub loop-i-preserved : goal.loop-i-preserved
loop-i-preserved g c =
    let r = c.loop-i.invariant in
    let h = c.loop-i-test.true in
    let lp = c.load_at-p.ensures in
    let k = going_kept c.args.work.now c.args.t c.args.nv c.args.ne _ _ _ c.requires.2 _ r c.args.polygons.at c.args.polygons.n c.requires.0.fits in
    going_more c.args.work.now c.args.t c.args.nv c.args.ne _ _ _ c.requires.2 _ r _ _ _ _ h (made_here c.requires.0 _ k _ h lp g.S.Step.made _)
    c.take_polygon-n.ensures (less_after g.S.Step.added g.met.S.Step.adds _ _ (count_here c.requires.0 _ k _ h lp))

pub returns : goal.returns
returns g c =
    going_end c.args.work.now c.args.t c.args.nv c.args.ne _ _ _ c.requires.2 _ c.loop-i.invariant _ c.loop-i-test.false (omega arith)
