-- `facettext::number::put_sign` meets its contract: one byte below zero, and none otherwise. Assumes nothing.
use mathlib.Core.Path.{◌≡◌, sym, ◌∙◌}
use mathlib.Core.Bool.{true}
use native.Mathlib.Omega.{arith}
use Rattle.rules.specs.StlText.{is_negative}
use Rattle.lines.specs.Printing.{printed_one, printed_nothing, printed_as}
use Rattle.facettext.proofs.Coordinates.{minus_text, no_sign}
use Rattle.facettext.proofs.number.put_sign.Goals as goal

below : (c : goal.Then-is_negative) → is_negative c.args.p ≡ true
below c = sym c.is_negative.ensures ∙ c.if-is_negative.true

pub bounds-out-at : goal.bounds-out-at
bounds-out-at c = omega (arith, rw (minus_text _ (below c)) at c.requires)

pub returns-then-is_negative : goal.returns-then-is_negative
returns-then-is_negative c = printed_as (printed_one _ _ 45) (sym (minus_text _ (below c)))

pub returns : goal.returns
returns c = printed_as (printed_nothing _ _) (sym (no_sign _ (sym c.is_negative.ensures ∙ c.if-is_negative.false)))
