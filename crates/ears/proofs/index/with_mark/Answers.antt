-- `ears::index::with_mark` meets its contract: the index is a remainder, and the top bit, which it does not have, is added to it. Assumes nothing.
use mathlib.Core.Path.{◌∙◌}
use Prim.Native.Nat.{◌%◌, ◌^◌}
use native.Mathlib.Omega.{arith}
use lib.Bits.{and_mask, or_shifted_r}
use Rattle.rules.specs.Ears.{index_of, with_mark}
use Rattle.ears.proofs.index.with_mark.Goals as goal

pub returns-then-on : goal.returns-then-on
unfolding with_mark index_of
returns-then-on c = rw (c.if-on.true, and_mask c.args.w 28) (or_shifted_r 1 31 (c.args.w % 2 ^ 28) (omega arith) ∙ omega arith)

pub returns-else-on : goal.returns-else-on
unfolding with_mark index_of
returns-else-on c = rw c.if-on.false (and_mask c.args.w 28)
