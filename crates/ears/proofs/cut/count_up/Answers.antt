use mathlib.Core.Path.{refl}
use native.Mathlib.Omega.{arith}
use Rattle.mem.specs.Tab.{filled_none, filled_more}
use Rattle.rules.specs.Ears.{indices}
use Rattle.mem.specs.Tab.{filled_whole}
use Rattle.ears.proofs.cut.count_up.Goals as goal

pub loop-k-init : goal.loop-k-init
loop-k-init c = filled_none _ _ _ _

pub loop-k-preserved : goal.loop-k-preserved
loop-k-preserved c = filled_more c.loop-k.invariant _ _ (omega arith) refl c.loop-k-test.true

pub returns : goal.returns
unfolding indices
returns c = filled_whole c.loop-k.invariant (omega arith)
