-- `ears::cut::put_triangle` meets its contract: the three words are read from places in the ring, and written one after the other. Assumes nothing.
use Prim.Native.Nat.{◌<◌}
use native.Mathlib.Omega.{arith}
use borrow.Author.Rules.{rules}
use lib.ListN.{length-set}
use Rattle.laws.proofs.Ring.{next_below}
use Rattle.ears.proofs.Parts.{triangle_put}
use Rattle.ears.proofs.cut.put_triangle.Goals as goal

pub overflow_add-a-2 : goal.overflow_add-a-2
overflow_add-a-2 c =
    let second : c.next-i1.result < c.args.m = rw c.next-i1.ensures (next_below _ _ (omega arith)) in
    let h = second in search rules

pub offset_bounds-w-a-2 : goal.offset_bounds-w-a-2
offset_bounds-w-a-2 c =
    let second : c.next-i1.result < c.args.m = rw c.next-i1.ensures (next_below _ _ (omega arith)) in
    let h = second in search rules

pub bounds-w-a-2 : goal.bounds-w-a-2
bounds-w-a-2 c =
    let second : c.next-i1.result < c.args.m = rw c.next-i1.ensures (next_below _ _ (omega arith)) in
    let h = second in search rules

pub overflow_add-a-3 : goal.overflow_add-a-3
overflow_add-a-3 c =
    let third : c.next-i2.result < c.args.m = rw c.next-i2.ensures (next_below _ _ (omega arith)) in
    let h = third in search rules

pub offset_bounds-w-a-3 : goal.offset_bounds-w-a-3
offset_bounds-w-a-3 c =
    let third : c.next-i2.result < c.args.m = rw c.next-i2.ensures (next_below _ _ (omega arith)) in
    let h = third in search rules

pub bounds-w-a-3 : goal.bounds-w-a-3
bounds-w-a-3 c =
    let third : c.next-i2.result < c.args.m = rw c.next-i2.ensures (next_below _ _ (omega arith)) in
    let h = third in search rules

pub bounds-w-t-2 : goal.bounds-w-t-2
bounds-w-t-2 c = simp length-set (omega arith)

pub bounds-w-t-3 : goal.bounds-w-t-3
bounds-w-t-3 c = simp length-set (omega arith)

pub returns : goal.returns
returns c =
    triangle_put _ _ _ _ _ (omega arith) c.requires.0 c.next-i1.ensures c.next-i2.ensures
    c.index_of-x.ensures c.index_of-y.ensures c.index_of-z.ensures
