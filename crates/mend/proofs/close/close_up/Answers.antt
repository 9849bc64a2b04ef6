use native.Mathlib.Omega.{arith}
use Prim.Native.Nat.{◌+◌, ◌≤◌}
use lib.ListN.{length}
use Rattle.mend.proofs.Closing.{closing_begin, closing_both, closing_more, closing_end}
use borrow.Author.Rules.{rules}
use Rattle.mend.proofs.close.close_up.Goals as goal

pub loop-i-init : goal.loop-i-init
loop-i-init c =
    closing_begin c.args.numbers.now c.args.kept.now c.args.to

pub overflow_add-to : goal.overflow_add-to
overflow_add-to c =
    let b = (closing_both c.requires c.loop-i.invariant c.loop-i-test.true c.link_at.ensures).other in
    let h : c.args.to + c.loop-i.i ≤ length c.args.numbers.now = omega (arith, b, c.loop-i.invariant.long) in
    search rules

pub move_vertex-requires : goal.move_vertex-requires
move_vertex-requires c =
    closing_both c.requires c.loop-i.invariant c.loop-i-test.true c.link_at.ensures

pub loop-i-preserved : goal.loop-i-preserved
loop-i-preserved c =
    closing_more c.requires c.loop-i.invariant c.loop-i-test.true c.link_at.ensures c.move_vertex.ensures

pub returns : goal.returns
returns c = closing_end c.loop-i.invariant c.loop-i-test.false
