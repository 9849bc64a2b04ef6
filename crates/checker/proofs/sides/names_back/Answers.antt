-- `checker::sides::names_back` meets its contract: each way out is the test with its parts known. Assumes nothing.
use Prim.Native.Nat.{◌<◌}
use native.Mathlib.Omega.{arith}
use lib.ListN.{length}
use Rattle.laws.proofs.Ring.{next_below}
use Rattle.checker.proofs.Names.{not_from, not_to, link_decides}
use borrow.Author.Rules.{rules}
use Rattle.checker.proofs.sides.names_back.Goals as goal

pub offset_bounds-corners-e : goal.offset_bounds-corners-e
offset_bounds-corners-e c =
    let below : c.next-e.result < length c.args.corners.now =
    rw c.next-e.ensures (next_below c.args.q (length c.args.corners.now) (omega (arith, c.requires.0))) in
    record { fits = omega (arith, below) }

pub bounds-corners-e : goal.bounds-corners-e
bounds-corners-e c =
    let below : c.next-e.result < length c.args.corners.now =
    rw c.next-e.ensures (next_below c.args.q (length c.args.corners.now) (omega (arith, c.requires.0))) in
    below

pub returns-then-corners-e : goal.returns-then-corners-e
returns-then-corners-e c =
    link_decides _ _ _ _ _ _ c.if-corners-q.true _ c.next-e.ensures (search rules) c.if-corners-e.true

pub returns-else-corners-e : goal.returns-else-corners-e
returns-else-corners-e c = not_to _ _ _ _ _ _ c.if-corners-q.true _ c.next-e.ensures c.if-corners-e.false

pub returns-else-corners-q : goal.returns-else-corners-q
returns-else-corners-q c = not_from _ _ _ _ _ _ c.if-corners-q.false
