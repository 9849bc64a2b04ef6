-- `mend::ends::ends_meet` meets its contract: each test is the turn's own. Assumes nothing.
use mathlib.Core.Path.{sym, ◌∙◌}
use Prim.Native.Nat.{◌+◌, ◌-◌}
use native.Mathlib.Omega.{arith}
use Rattle.mend.proofs.EndsMeeting.{held_both, met_few, met_near, met_last, met_two, met_apart}
use Rattle.mend.proofs.ends.ends_meet.Goals as goal

pub returns-then-at-lt3 : goal.returns-then-at-lt3
returns-then-at-lt3 c =
    met_few c.args.numbers.now c.args.stack.now c.args.at c.if-at-lt3.true

pub same_place-requires : goal.same_place-requires
same_place-requires c =
    let w = c.requires.within in
    held_both c.requires.held (c.args.at.lo + (c.args.at.n - 2)) c.args.at.lo (omega (arith, w, c.if-at-lt3.false)) (omega
    (arith, w, c.if-at-lt3.false))
    c.link_at.ensures c.link_at-first.ensures

pub returns-then-same_place : goal.returns-then-same_place
returns-then-same_place c =
    met_near c.args.numbers.now c.args.stack.now c.args.at c.if-at-lt3.false c.link_at-first.ensures
    c.link_at.ensures (sym c.same_place.ensures ∙ c.if-same_place.true)

pub same_place-requires-2 : goal.same_place-requires-2
same_place-requires-2 c =
    let w = c.requires.within in
    held_both c.requires.held (c.args.at.lo + (c.args.at.n - 1)) c.args.at.lo (omega (arith, w, c.if-at-lt3.false)) (omega
    (arith, w, c.if-at-lt3.false))
    c.link_at-last.ensures c.link_at-first.ensures

pub returns-then-same_place-2 : goal.returns-then-same_place-2
returns-then-same_place-2 c =
    met_last c.args.numbers.now c.args.stack.now c.args.at c.if-at-lt3.false c.link_at-first.ensures
    c.link_at.ensures (sym c.same_place.ensures ∙ c.if-same_place.false)
    c.link_at-last.ensures (sym c.same_place-2.ensures ∙ c.if-same_place-2.true)

pub same_place-requires-3 : goal.same_place-requires-3
same_place-requires-3 c =
    let w = c.requires.within in
    held_both c.requires.held (c.args.at.lo + (c.args.at.n - 1)) (c.args.at.lo + 1) (omega (arith, w, c.if-at-lt3.false)) (omega
    (arith, w, c.if-at-lt3.false))
    c.link_at-last.ensures c.link_at-2.ensures

pub returns-then-same_place-3 : goal.returns-then-same_place-3
returns-then-same_place-3 c =
    met_two c.args.numbers.now c.args.stack.now c.args.at c.if-at-lt3.false c.link_at-first.ensures
    c.link_at.ensures (sym c.same_place.ensures ∙ c.if-same_place.false)
    c.link_at-last.ensures (sym c.same_place-2.ensures ∙ c.if-same_place-2.false) c.link_at-2.ensures (sym
    c.same_place-3.ensures ∙ c.if-same_place-3.true)

pub returns : goal.returns
returns c =
    met_apart c.args.numbers.now c.args.stack.now c.args.at c.if-at-lt3.false c.link_at-first.ensures
    c.link_at.ensures (sym c.same_place.ensures ∙ c.if-same_place.false)
    c.link_at-last.ensures (sym c.same_place-2.ensures ∙ c.if-same_place-2.false) c.link_at-2.ensures (sym
    c.same_place-3.ensures ∙ c.if-same_place-3.false)
