-- `lines::decimal::read_decimal` meets its contract. The loop's invariant is `Reading`: the answer is that of the digits that are left, and the number so far is
-- within its limit. Assumes nothing.
use Rattle.lines.proofs.Decimals.{Reading}
use Rattle.lines.proofs.decimal.read_decimal.Given as goal

abbrev pub invariant-loop-c : goal.invariant-loop-c
invariant-loop-c l = Reading l.least l.most l.cell l.v l.c-index
