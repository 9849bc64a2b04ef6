-- `sheet::refusal::SheetRefusal::line` meets its contract: the line is the one that it carries, or the rules'. Assumes nothing.
use mathlib.Core.Path.{refl}
use Rattle.sheet.specs.Refusals.{line_of}
use Rattle.sheet.proofs.refusal.SheetRefusal.line.Goals as goal

pub returns-in-NoUnit : goal.returns-in-NoUnit
unfolding line_of
returns-in-NoUnit c = rw c.in-NoUnit.is refl

pub returns-in-Malformed : goal.returns-in-Malformed
unfolding line_of
returns-in-Malformed c = rw c.in-Malformed.is refl

pub returns-in-TooLong : goal.returns-in-TooLong
unfolding line_of
returns-in-TooLong c = rw c.in-TooLong.is refl

pub returns-in-TooMany : goal.returns-in-TooMany
unfolding line_of
returns-in-TooMany c = rw c.in-TooMany.is refl
