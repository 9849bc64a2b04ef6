use mathlib.Core.Path.{refl}
use Rattle.rules.specs.Exits.{padded}
use Rattle.records.specs.Values.{to_poly}
use borrow.Author.Rules.{rules}
use Rattle.records.proofs.polygon.blank.Goals as goal

-- src/polygon.rt:106:1
pub returns : goal.returns
unfolding to_poly padded
returns c = (refl, search rules)
