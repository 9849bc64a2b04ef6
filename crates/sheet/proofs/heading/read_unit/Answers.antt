-- `sheet::heading::read_unit` meets its contract: a line that says a unit is one of two texts, and any other line says none. Assumes nothing.
use mathlib.Core.Path.{sym, ◌∙◌}
use native.Mathlib.Omega.{arith}
use lib.Seq.{length-take-le}
use Rattle.sheet.proofs.Headings.{unit_mm, unit_in, unit_other, unit_known, unit_missing, unit_open}
use Rattle.sheet.proofs.heading.read_unit.Goals as goal

pub slice_bounds-is_same_text-end : goal.slice_bounds-is_same_text-end
slice_bounds-is_same_text-end c = sym (length-take-le _ _ (omega arith))

pub returns-then-is_same_text : goal.returns-then-is_same_text
returns-then-is_same_text c = unit_known c.args.text.now c.find-e.ensures.0 _ (omega arith) (λ f. unit_mm _ f (sym c.is_same_text.ensures ∙ c.if-is_same_text.true))

pub returns-then-is_same_text-2 : goal.returns-then-is_same_text-2
returns-then-is_same_text-2 c = unit_known c.args.text.now c.find-e.ensures.0 _ (omega arith) (λ f. unit_in _ f (sym c.is_same_text-then-e-text.ensures ∙ c.if-is_same_text-2.true))

pub returns-else-is_same_text-2 : goal.returns-else-is_same_text-2
returns-else-is_same_text-2 c =
    unit_missing c.args.text.now c.find-e.ensures.0 (omega arith)
    (λ f. unit_other _ f (sym c.is_same_text.ensures ∙ c.if-is_same_text.false) (sym c.is_same_text-then-e-text.ensures ∙ c.if-is_same_text-2.false))

pub returns-else-e-text : goal.returns-else-e-text
returns-else-e-text c = unit_open c.args.text.now c.find-e.ensures.0 (omega arith)
