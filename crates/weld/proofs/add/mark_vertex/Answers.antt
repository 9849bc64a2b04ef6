use Rattle.weld.proofs.Puts.{flag_set, flag_clear}
use Rattle.weld.proofs.add.mark_vertex.Goals as goal

-- src/add.rt:52:9
pub returns-then-flag-eq1 : goal.returns-then-flag-eq1
returns-then-flag-eq1 c = flag_set c.args.work.now c.args.t c.args.nv c.requires.0 c.args.k c.args.flag c.requires.1 c.if-flag-eq1.true

-- src/add.rt:46:1
pub returns-else-flag-eq1 : goal.returns-else-flag-eq1
returns-else-flag-eq1 c = flag_clear c.args.work.now c.args.t c.args.nv c.requires.0 c.args.k c.args.flag c.if-flag-eq1.false
