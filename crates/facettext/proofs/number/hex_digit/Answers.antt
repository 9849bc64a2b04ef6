-- `facettext::number::hex_digit` meets its contract: a digit up to 9, or a letter. Assumes nothing.
use mathlib.Core.Path.{refl}
use native.Mathlib.Omega.{arith}
use borrow.Author.Tests.{lt-ltb, le-ltb}
use Rattle.rules.specs.StlText.{hex_digit}
use Rattle.facettext.proofs.number.hex_digit.Goals as goal

pub returns-then-d-lt10 : goal.returns-then-d-lt10
unfolding hex_digit
returns-then-d-lt10 c = rw (lt-ltb _ 10 c.if-d-lt10.true, hex_digit) refl

pub returns : goal.returns
unfolding hex_digit
returns c = rw (le-ltb _ 10 c.if-d-lt10.false, hex_digit) (omega arith)
