-- `facettext::coordinate::significand_of` meets its contract: the fraction, and 2 to the 23 more if the exponent is not 0. Assumes nothing.
use mathlib.Core.Path.{refl, sym, ◌∙◌}
use borrow.Author.Tests.{eq-eqb, ne_eqb}
use Rattle.rules.specs.StlText.{fraction_of, significand}
use Rattle.facettext.proofs.coordinate.significand_of.Goals as goal

pub returns-then-exponent_of-eq0 : goal.returns-then-exponent_of-eq0
unfolding significand fraction_of
returns-then-exponent_of-eq0 c = rw (eq-eqb _ 0 (sym c.exponent_of.ensures ∙ c.if-exponent_of-eq0.true), significand) refl

pub returns : goal.returns
unfolding significand fraction_of
returns c =
    rw (ne_eqb _ 0 (λ q. c.if-exponent_of-eq0.false (c.exponent_of.ensures ∙ q)), significand) refl
