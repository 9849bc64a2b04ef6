-- `polys::stamp::stamp_bit` meets its contract: a shift of 1 by less than the word's width is a power of two. Assumes nothing.
use mathlib.Core.Path.{◌∙◌}
use Prim.Native.Nat.{◌%◌}
use native.Mathlib.Nat.{one-mul}
use native.Mathlib.Omega.{arith}
use lib.Pow.{shl_exact}
use Rattle.laws.specs.Stamps.{stamp_bit}
use Rattle.polys.proofs.stamp.stamp_bit.Goals as goal

pub returns : goal.returns
unfolding stamp_bit
returns c = shl_exact {a = 1} 1 (c.args.c % 32) 32 (omega arith) (omega arith) ∙ one-mul _
