-- `lines::digits::put_decimal` meets its contract: the digits of the rest, and then those that are written, are the number's. Assumes nothing.
use Rattle.rules.specs.Lines.{decimal}
use Rattle.lines.proofs.Places.{Left}
use Rattle.lines.proofs.digits.put_decimal.Given as goal

abbrev pub invariant-loop-rest : goal.invariant-loop-rest
invariant-loop-rest l = Left (decimal l.n) l.digits l.first l.rest

abbrev pub decreases-loop-rest : goal.decreases-loop-rest
decreases-loop-rest l = l.rest
