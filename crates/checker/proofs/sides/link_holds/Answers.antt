-- `checker::sides::link_holds` meets its contract: each way out is the test with its parts known. Assumes nothing.
use mathlib.Core.Path.{◌∙◌}
use Prim.Native.Nat.{◌<◌}
use native.Mathlib.Omega.{arith}
use lib.ListN.{length}
use Rattle.laws.proofs.Ring.{next_below}
use Rattle.checker.proofs.LinkCases.{open_side, past_last, itself, another}
use Rattle.checker.proofs.sides.link_holds.Goals as goal

pub returns-then-l-ge-NONE : goal.returns-then-l-ge-NONE
returns-then-l-ge-NONE c = open_side c.requires.0 c.args.j c.requires.1 c.if-l-ge-NONE.true

pub returns-then-np-other : goal.returns-then-np-other
returns-then-np-other c =
    past_last c.requires.0 c.args.j c.requires.1 c.if-l-ge-NONE.false c.if-np-other.true

pub returns-then-other-i : goal.returns-then-other-i
returns-then-other-i c =
    itself c.requires.0 c.args.j c.requires.1 c.if-l-ge-NONE.false c.if-np-other.false c.if-other-i.true

pub offset_bounds-own-e : goal.offset_bounds-own-e
offset_bounds-own-e c =
    let below : c.next-e.result < length c.args.own.now = rw c.next-e.ensures (next_below c.args.j (length c.args.own.now) (omega (arith, c.requires.1))) in
    record { fits = omega (arith, below) }

pub bounds-own-e : goal.bounds-own-e
bounds-own-e c =
    let below : c.next-e.result < length c.args.own.now = rw c.next-e.ensures (next_below c.args.j (length c.args.own.now) (omega (arith, c.requires.1))) in
    below

pub returns : goal.returns
returns c =
    rw c.next-e.ensures at c.polygon_names_back.ensures
    ∙ another c.requires.0 c.args.j c.requires.1 c.if-l-ge-NONE.false c.if-np-other.false c.if-other-i.false
