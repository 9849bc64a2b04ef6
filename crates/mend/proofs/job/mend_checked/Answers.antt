-- `mend::job::mend_checked` meets its contract: the list is full, or everything is written. Assumes nothing.
use native.Mathlib.Omega.{arith}
use Rattle.mend.proofs.Calling.{ended_full, write_ready, ended_written}
use Rattle.mend.proofs.job.mend_checked.Goals as goal

pub returns-then-list-lost : goal.returns-then-list-lost
returns-then-list-lost c =
    ended_full c.requires c.count_lost-lost.ensures (omega arith) c.fill.ensures

pub write-requires : goal.write-requires
write-requires c =
    write_ready c.requires c.count_lost-lost.ensures c.if-list-lost.false

pub returns : goal.returns
returns c =
    ended_written c.requires c.count_lost-lost.ensures c.if-list-lost.false c.write.ensures
