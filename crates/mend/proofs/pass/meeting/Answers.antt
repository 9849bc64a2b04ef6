-- `mend::pass::meeting` meets its contract: each test is the pass's own. Assumes nothing.
use mathlib.Core.Path.{sym, ◌∙◌}
use native.Mathlib.Omega.{arith}
use Rattle.mend.proofs.Meeting.{both_in, met_few, met_top, met_low, met_second, met_neither}
use Prim.Native.Nat.{◌-◌}
use Rattle.mend.proofs.pass.meeting.Goals as goal

pub returns-then-top-e-lt3 : goal.returns-then-top-e-lt3
returns-then-top-e-lt3 c =
    met_few c.args.numbers.now c.args.work.now c.args.top c.args.e c.args.j c.requires c.if-top-e-lt3.true

pub same_place-requires : goal.same_place-requires
same_place-requires c =
    both_in c.args.numbers.now c.args.work.now c.args.top c.args.e c.args.j c.requires _ (c.args.top - 1)
    (omega (arith, c.requires.some)) c.link_at.ensures

pub returns-then-same_place : goal.returns-then-same_place
returns-then-same_place c =
    let top = c.link_at in
    met_top c.args.numbers.now c.args.work.now c.args.top c.args.e c.args.j c.requires
    c.if-top-e-lt3.false top.result top.ensures (sym c.same_place.ensures ∙ c.if-same_place.true)

pub returns-then-top-lt2 : goal.returns-then-top-lt2
returns-then-top-lt2 c =
    let top = c.link_at in
    met_low c.args.numbers.now c.args.work.now c.args.top c.args.e c.args.j c.requires
    c.if-top-e-lt3.false top.result top.ensures (sym c.same_place.ensures ∙ c.if-same_place.false) c.if-top-lt2.true

pub same_place-requires-2 : goal.same_place-requires-2
same_place-requires-2 c =
    both_in c.args.numbers.now c.args.work.now c.args.top c.args.e c.args.j c.requires _ (c.args.top - 2)
    (omega (arith, c.requires.some)) c.link_at-2.ensures

pub returns-then-same_place-2 : goal.returns-then-same_place-2
returns-then-same_place-2 c =
    let top = c.link_at in
    let second = c.link_at-2 in
    met_second c.args.numbers.now c.args.work.now c.args.top c.args.e c.args.j c.requires
    c.if-top-e-lt3.false top.result top.ensures second.result (sym c.same_place.ensures ∙ c.if-same_place.false)
    c.if-top-lt2.false second.ensures (sym c.same_place-2.ensures ∙ c.if-same_place-2.true)

pub returns : goal.returns
returns c =
    let top = c.link_at in
    let second = c.link_at-2 in
    met_neither c.args.numbers.now c.args.work.now c.args.top c.args.e c.args.j c.requires
    c.if-top-e-lt3.false top.result top.ensures second.result (sym c.same_place.ensures ∙ c.if-same_place.false)
    c.if-top-lt2.false second.ensures (sym c.same_place-2.ensures ∙ c.if-same_place-2.false)
