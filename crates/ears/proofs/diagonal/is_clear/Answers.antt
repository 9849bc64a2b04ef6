use mathlib.Core.Path.{◌≡◌, refl, sym, ap, ◌∙◌}
use mathlib.Core.Bool.{Bool, ◌||◌}
use Prim.Native.Nat.{◌+◌, ◌<◌}
use native.Mathlib.Omega.{arith}
use borrow.Author.Rules.{rules}
use lib.ListN.{length}
use mir.Syntax.{w64}
use mir.Val.{Fits}
use Rattle.mem.specs.Loops.{turn, next, end}
use Rattle.rules.specs.Diagonal.{stops, is_blocked}
use Rattle.rules.specs.Ears.{point_at}
use Rattle.laws.proofs.Ring.{next_in, next_below}
use Rattle.plane.specs.Points.{points_in}
use Rattle.ears.proofs.Rings.{first_grid, second_grid}
use Rattle.ears.proofs.Stops.{side_at, no_side_lem}
use Rattle.ears.proofs.diagonal.is_clear.Goals as goal

pub returns-then-leaves_no_side : goal.returns-then-leaves_no_side
returns-then-leaves_no_side c =
    no_side_lem c.args.kind _ (length c.args.ix.now) c.args.i c.args.j c.requires.1.i_in c.leaves_no_side.ensures c.if-leaves_no_side.true

pub corner-c-requires : goal.corner-c-requires
corner-c-requires c = (c.requires.0, omega (arith, c.requires.1.i_in))

pub loop-k-init : goal.loop-k-init
unfolding is_blocked
loop-k-init c = (record { same = refl }, λ _. c.corner-c.ensures.0, c.corner-c.ensures.1)

pub corner-d-requires : goal.corner-d-requires
corner-d-requires c = (c.requires.0, rw c.next-l.ensures (next_below _ _ (omega (arith, c.if-n-k.false))))

pub does_stop-requires : goal.does_stop-requires
does_stop-requires c = (
  first_grid c.requires.0 c.requires.1,
  second_grid c.requires.0 c.requires.1,
  c.loop-k.invariant.2,
  c.corner-d.ensures.1,
  c.bounds_of-t.ensures,
)

pub overflow_add-k : goal.overflow_add-k
overflow_add-k c =
    let long : Fits w64 (length c.args.ix.now) = search rules in
    let in-ring : c.loop-k.k < length c.args.ix.now = c.if-n-k.false in
    record { fits = omega (arith, (long).fits, in-ring) }

pub loop-k-preserved : goal.loop-k-preserved
loop-k-preserved c =
    let in-ring : c.loop-k.k < length c.args.ix.now = c.if-n-k.false in
    let found-is : let s = c.args in
    c.does_stop.result ≡ stops s.kind (point_at (points_in s.pts.now) s.ix.now) (length s.ix.now) s.i s.j c.loop-k.k = c.does_stop.ensures
    ∙ side_at c.args.kind c.loop-k.k c.requires.1 c.next-l.ensures
    (c.loop-k.invariant.1 (in-ring)) c.corner-d.ensures.0 in (
      next c.loop-k.invariant.0 (in-ring) (λ r. ap (λ (t : Bool). t || r) (sym (found-is) ∙ c.if-does_stop.false)),
      λ (h : c.loop-k.k + 1 < length c.args.ix.now).
          c.corner-d.ensures.0 ∙ ap (point_at (points_in c.args.pts.now) c.args.ix.now) (c.next-l.ensures ∙ next_in _ _ h),
      c.corner-d.ensures.1,
    )

pub returns-then-n-k : goal.returns-then-n-k
returns-then-n-k c = sym (end c.loop-k.invariant.0 c.if-n-k.true)

pub returns-then-does_stop : goal.returns-then-does_stop
returns-then-does_stop c =
    let in-ring : c.loop-k.k < length c.args.ix.now = c.if-n-k.false in
    let found-is : let s = c.args in
    c.does_stop.result ≡ stops s.kind (point_at (points_in s.pts.now) s.ix.now) (length s.ix.now) s.i s.j c.loop-k.k = c.does_stop.ensures
    ∙ side_at c.args.kind c.loop-k.k c.requires.1 c.next-l.ensures
    (c.loop-k.invariant.1 (in-ring)) c.corner-d.ensures.0 in
    sym (rw (sym (found-is) ∙ c.if-does_stop.true) at (turn c.loop-k.invariant.0 (in-ring)))
