use mathlib.Core.Path.{refl}
use Prim.Native.Nat.{◌+◌}
use native.Mathlib.Omega.{arith}
use lib.ListN.{length-set}
use Rattle.lines.specs.Printing.{printed_as}
use Rattle.lines.proofs.Places.{left_all, left_place, left_more, left_end}
use borrow.Author.Rules.{rules}
use Rattle.lines.proofs.digits.put_decimal.Goals as goal

pub loop-rest-init : goal.loop-rest-init
loop-rest-init c = left_all _ _ refl (search rules)

pub overflow_sub-first : goal.overflow_sub-first
overflow_sub-first c = left_place c.loop-rest.invariant (omega arith)

pub loop-rest-preserved : goal.loop-rest-preserved
loop-rest-preserved c = left_more c.loop-rest.invariant _ (omega arith) refl

pub slice_bounds-put_text-end : goal.slice_bounds-put_text-end
slice_bounds-put_text-end c = omega (arith, length-set c.loop-rest.digits c.loop-rest.first (48 + c.loop-rest.rest), c.loop-rest.invariant.long)

pub put_text-requires : goal.put_text-requires
put_text-requires c = rw (left_end c.loop-rest.invariant _ (omega arith) refl) c.requires

pub returns : goal.returns
returns c = printed_as c.put_text.ensures (left_end c.loop-rest.invariant _ (omega arith) refl)
