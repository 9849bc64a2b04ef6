-- `polys::best::greater` meets its contract: each arm is the definition with its test known. Assumes nothing.
use borrow.Author.Tests.{lt-ltb, le-ltb}
use Rattle.rules.specs.Merge.{greater}
use Rattle.polys.proofs.best.greater.Goals as goal

pub returns-then-best-m : goal.returns-then-best-m
unfolding greater
returns-then-best-m c = rw (lt-ltb _ _ c.if-best-m.true)

pub returns-else-best-m : goal.returns-else-best-m
unfolding greater
returns-else-best-m c = rw (le-ltb _ _ c.if-best-m.false)
