use mathlib.Core.Bool.{true, false}
use mathlib.Core.Path.{refl}
use Rattle.holes.proofs.Fills.{region_agrees}
use Rattle.holes.proofs.fill.agreed_region.Goals as goal

-- src/fill.rt:37:1
pub returns-then-a-b : goal.returns-then-a-b
returns-then-a-b c = let s = c.args in region_agrees s.a s.b s.c true c.if-a-b.true _ refl

-- src/fill.rt:37:1
pub returns-else-a-b : goal.returns-else-a-b
returns-else-a-b c = let s = c.args in region_agrees s.a s.b s.c false c.if-a-b.false _ refl
