use Rattle.weld.proofs.Puts.{grown_new, grown_old}
use Rattle.weld.proofs.add.grow.Goals as goal

-- src/add.rt:57:1
pub returns-then-k-nv : goal.returns-then-k-nv
returns-then-k-nv c = grown_new _ _ c.if-k-nv.true

-- src/add.rt:57:1
pub returns-else-k-nv : goal.returns-else-k-nv
returns-else-k-nv c = grown_old _ _ c.if-k-nv.false
