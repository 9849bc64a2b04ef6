-- `trails::sides::dropped` meets its contract: each arm is the definition with its test known. Assumes nothing.
use mathlib.Core.Path.{sym}
use borrow.Author.Rules.{rules}
use Rattle.laws.proofs.Removal.{dropped_low, dropped_high}
use Rattle.trails.proofs.sides.dropped.Goals as goal

pub returns-then-rem-v : goal.returns-then-rem-v
returns-then-rem-v c = let g = c.args in sym (dropped_high g.rem g.v (search rules))

pub returns-else-rem-v : goal.returns-else-rem-v
returns-else-rem-v c = let g = c.args in sym (dropped_low g.rem g.v (search rules))
