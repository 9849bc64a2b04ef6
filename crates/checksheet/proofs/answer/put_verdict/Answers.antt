-- `checksheet::answer::put_verdict` meets its contract: `accepted`, or `refused` and the two numbers. Assumes nothing.
use mathlib.Core.Path.{sym, ap}
use native.Mathlib.Omega.{arith}
use lib.ListN.{length}
use Rattle.rules.specs.Lines.{ascii}
use Rattle.rules.specs.CheckSheet.{accepted_name}
use Rattle.lines.specs.Printing.{printed_as}
use Rattle.checksheet.proofs.Verdicts.{accepted_short, numbers_accepted, numbers_refused}
use Rattle.checksheet.proofs.answer.put_verdict.Goals as goal

pub put_text-requires : goal.put_text-requires
put_text-requires c =
    omega (arith, c.requires, ap length (numbers_accepted c.args.number c.args.second c.if-number-eq0.true), accepted_short)

pub returns-then-number-eq0 : goal.returns-then-number-eq0
unfolding accepted_name ascii
returns-then-number-eq0 c =
    printed_as c.put_text.ensures (sym (numbers_accepted c.args.number c.args.second c.if-number-eq0.true))

pub put_refused-requires : goal.put_refused-requires
put_refused-requires c =
    omega (arith, c.requires, ap length (numbers_refused c.args.number c.args.second c.if-number-eq0.false))

pub returns : goal.returns
returns c =
    printed_as c.put_refused.ensures (sym (numbers_refused c.args.number c.args.second c.if-number-eq0.false))
