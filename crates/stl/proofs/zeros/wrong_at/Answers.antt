-- `stl::zeros::wrong_at` meets its contract: where zero is due the byte decides, and elsewhere none is wrong. Assumes nothing.
use mathlib.Core.Path.{sym, ◌∙◌}
use Rattle.laws.proofs.StlWords.{wrong_due, wrong_free}
use Rattle.stl.proofs.zeros.wrong_at.Goals as goal

pub returns-then-zero_due : goal.returns-then-zero_due
returns-then-zero_due c =
    wrong_due c.args.file.now c.args.i (sym c.zero_due.ensures ∙ c.if-zero_due.true)

pub returns-else-zero_due : goal.returns-else-zero_due
returns-else-zero_due c =
    c.if-zero_due.false ∙ wrong_free c.args.file.now c.args.i (sym c.zero_due.ensures ∙ c.if-zero_due.false)
