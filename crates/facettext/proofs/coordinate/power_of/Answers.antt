-- `facettext::coordinate::power_of` meets its contract: the exponent, or 1 if that is 0. Assumes nothing.
use mathlib.Core.Path.{sym, ◌∙◌}
use borrow.Author.Tests.{eq-eqb, ne_eqb}
use Rattle.rules.specs.StlText.{power_of}
use Rattle.facettext.proofs.coordinate.power_of.Goals as goal

pub returns-then-e-eq0 : goal.returns-then-e-eq0
unfolding power_of
returns-then-e-eq0 c = rw (eq-eqb _ 0 (sym c.exponent_of-e.ensures ∙ c.if-e-eq0.true), power_of)

pub returns : goal.returns
unfolding power_of
returns c =
    let e = c.exponent_of-e.ensures in
    rw (ne_eqb _ 0 (λ q. c.if-e-eq0.false (e ∙ q)), power_of) e
