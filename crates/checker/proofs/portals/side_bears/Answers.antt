-- `checker::portals::side_bears` meets its contract: a link to a polygon passes, and of any other R7 decides. Assumes nothing.
use Prim.Native.Nat.{◌<◌}
use native.Mathlib.Omega.{arith}
use lib.ListN.{length}
use Rattle.laws.proofs.Ring.{next_below}
use Rattle.checker.proofs.Bearing.{not_open, open_decides}
use Rattle.checker.proofs.portals.side_bears.Goals as goal

pub returns-then-l-lt-NONE : goal.returns-then-l-lt-NONE
returns-then-l-lt-NONE c =
    not_open c.requires.0 c.args.grid.w c.args.grid.h c.args.grid.border c.args.j c.requires.1 c.if-l-lt-NONE.true

pub offset_bounds-own-e : goal.offset_bounds-own-e
offset_bounds-own-e c =
    let below : c.next-e.result < length c.args.own.now = rw c.next-e.ensures (next_below c.args.j (length c.args.own.now) (omega (arith, c.requires.1))) in
    record { fits = omega (arith, below) }

pub bounds-own-e : goal.bounds-own-e
bounds-own-e c =
    let below : c.next-e.result < length c.args.own.now = rw c.next-e.ensures (next_below c.args.j (length c.args.own.now) (omega (arith, c.requires.1))) in
    below

pub open_link-requires : goal.open_link-requires
open_link-requires c =
    let below : c.next-e.result < length c.args.own.now = rw c.next-e.ensures (next_below c.args.j (length c.args.own.now) (omega (arith, c.requires.1))) in
    (c.requires.0.inside c.args.j c.requires.1, c.requires.0.inside c.next-e.result (below))

pub returns : goal.returns
returns c =
    open_decides c.requires.0 c.args.grid.w c.args.grid.h c.args.grid.border c.args.j c.requires.1 c.if-l-lt-NONE.false c.next-e.result
    c.open_link.result c.next-e.ensures c.open_link.ensures
