-- `ears::cut::cut_ear` meets its contract: the gap is closed in the lent part, and what is left of the words is ready to be marked. Assumes nothing.
use mathlib.Core.Path.{◌≡◌, ◌∙◌}
use mathlib.Core.Bool.{cond}
use mathlib.Core.List.{[], ◌∷◌, ◌++◌}
use Prim.Native.Nat.{◌+◌, ◌-◌, ◌<◌}
use native.Mathlib.Omega.{arith}
use borrow.Author.Tests.{lt-ltb, le-ltb}
use lib.Dec.{ltb}
use lib.ListN.{take, drop}
use Rattle.mem.specs.Slice.{view, splice, length_view}
use Rattle.rules.specs.Lists.{without}
use Rattle.laws.proofs.Ring.{next_below}
use Rattle.laws.proofs.Ring.{prev_below}
use Rattle.ears.proofs.Parts.{gap_ready, ear_cut}
use Rattle.mem.specs.Slice.{lent_part}
use Rattle.ears.proofs.cut.cut_ear.Goals as goal
use Rattle.ears.proofs.cut.cut_ear.Goals.{then-k-n, else-k-n}

-- `ears::cut::cut_ear` meets its contract: the gap is closed in the lent part, and what is left of the words is ready to be marked. Assumes nothing.

pub close_gap-requires : goal.close_gap-requires
close_gap-requires c =
    let e : c.args.a + c.args.m - c.args.a ≡ c.args.m = omega arith in
    rw (e, length_view _ _ _ c.requires.0.room, c.next-k.ensures) (next_below _ _ (omega arith))

pub remark_gap-requires : goal.remark_gap-requires
remark_gap-requires c =
    let closed : take (c.args.a) (c.args.w.now) ++ (c.close_gap.new.ix ++ drop (c.args.a + c.args.m - c.args.a) (drop (c.args.a) (c.args.w.now)))
    ≡ splice (c.args.w.now) (c.args.a) (without (view (c.args.w.now) (c.args.a) (c.args.m)) (c.next-k.result) ++ (0 ∷ [])) = let e : c.args.a + c.args.m - c.args.a ≡ c.args.m = omega arith in
    lent_part (λ l. without l (c.next-k.result) ++ (0 ∷ [])) (c.args.w.now) c.close_gap.new.ix (c.args.a) _ _ e
    c.close_gap.ensures c.close_gap.auto.ix c.requires.0.room in
    let after-below : c.if-k-n.i1 < c.args.m - 1 = elim c.if-k-n.branch [ then-k-n w ↦ omega arith | else-k-n w ↦ omega arith ] in
    let h = after-below in (
      gap_ready _ _ _ _ c.requires.0 c.requires.1 c.next-k.ensures (closed),
      rw c.prev.ensures (prev_below _ _ h),
      h,
    )

pub returns : goal.returns
returns c =
    let closed : take (c.args.a) (c.args.w.now) ++ (c.close_gap.new.ix ++ drop (c.args.a + c.args.m - c.args.a) (drop (c.args.a) (c.args.w.now)))
    ≡ splice (c.args.w.now) (c.args.a) (without (view (c.args.w.now) (c.args.a) (c.args.m)) (c.next-k.result) ++ (0 ∷ [])) = let e : c.args.a + c.args.m - c.args.a ≡ c.args.m = omega arith in
    lent_part (λ l. without l (c.next-k.result) ++ (0 ∷ [])) (c.args.w.now) c.close_gap.new.ix (c.args.a) _ _ e
    c.close_gap.ensures c.close_gap.auto.ix c.requires.0.room in
    let after-gap : c.if-k-n.i1 ≡ cond (ltb (c.next-k.result) (c.args.m - 1)) (c.next-k.result) 0 = elim c.if-k-n.branch [ then-k-n w ↦ w.i1-is ∙ rw (lt-ltb _ _ w.if-k-n.true) | else-k-n w ↦ w.i1-is ∙ rw (le-ltb _ _ w.if-k-n.false) ] in
    ear_cut _ _ _ _ c.requires.0 c.requires.1 c.next-k.ensures (closed)
    (after-gap) c.prev.ensures c.remark_gap.ensures
