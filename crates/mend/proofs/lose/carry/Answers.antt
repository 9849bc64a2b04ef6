-- `mend::lose::carry` meets its contract: a 1 is taken, and nothing else. Assumes nothing.
use Rattle.laws.proofs.MendNumbers.{carried_one, carried_none}
use mathlib.Core.Path.{sym}
use Rattle.mend.proofs.lose.carry.Goals as goal

pub returns-then-numbers-q-eq1 : goal.returns-then-numbers-q-eq1
returns-then-numbers-q-eq1 c =
    sym (carried_one c.args.numbers.now c.args.p c.args.q c.if-numbers-q-eq1.true)

pub returns-else-numbers-q-eq1 : goal.returns-else-numbers-q-eq1
returns-else-numbers-q-eq1 c =
    sym (carried_none c.args.numbers.now c.args.p c.args.q c.if-numbers-q-eq1.false)
