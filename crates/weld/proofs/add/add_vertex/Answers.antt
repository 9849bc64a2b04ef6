use Rattle.weld.proofs.Puts.{added_old, added_new}
use Rattle.weld.proofs.add.add_vertex.Goals as goal

-- src/add.rt:36:13
pub returns-in-Some : goal.returns-in-Some
returns-in-Some c = added_old c.args.height c.args.work.now c.args.t c.args.nv c.args.v _ (rw c.in-Some.is at c.find_vertex.ensures)

-- src/add.rt:40:13
pub returns-in-None : goal.returns-in-None
returns-in-None c = added_new c.args.height c.args.work.now c.args.t c.args.nv c.args.v (rw c.in-None.is at c.find_vertex.ensures) c.put_vertex.ensures
