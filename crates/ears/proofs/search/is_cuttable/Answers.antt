-- `ears::search::is_cuttable` meets its contract: each arm is the definition at its kind; the places that it reads are in the ring. Assumes nothing.
use Prim.Native.Nat.{◌<◌}
use native.Mathlib.Omega.{arith}
use borrow.Author.Rules.{rules}
use lib.ListN.{length}
use Rattle.rules.specs.Ears.{is_cuttable}
use Rattle.laws.proofs.Ring.{next_below}
use Rattle.ears.proofs.search.is_cuttable.Goals as goal

pub offset_bounds-ix-i1 : goal.offset_bounds-ix-i1
offset_bounds-ix-i1 c =
    let place : c.next-i1.result < length c.args.ix.now = rw c.next-i1.ensures (next_below _ _ (omega arith)) in
    let h = place in search rules

pub bounds-ix-i1 : goal.bounds-ix-i1
bounds-ix-i1 c =
    let place : c.next-i1.result < length c.args.ix.now = rw c.next-i1.ensures (next_below _ _ (omega arith)) in
    let h = place in search rules

pub is_diagonal-requires : goal.is_diagonal-requires
is_diagonal-requires c =
    (c.requires.0, c.requires.1, rw c.next.ensures (next_below _ _ (omega arith)))

pub returns-in-Strict : goal.returns-in-Strict
unfolding is_cuttable
returns-in-Strict c = rw (c.in-Strict.is, ← c.next-i1.ensures) c.is_marked.ensures

pub returns-in-Loose : goal.returns-in-Loose
unfolding is_cuttable
returns-in-Loose c =
    rw (c.in-Loose.is, ← c.next-i1.ensures, ← c.next.ensures)
    c.is_diagonal.ensures
