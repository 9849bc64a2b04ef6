-- `checks::counts::triangles_in` meets its contract: it goes by the test of the definition. Assumes nothing.
use mathlib.Core.Path.{refl}
use borrow.Author.Tests.{le-leb, lt-leb}
use Rattle.checks.specs.Sums.{triangles_of}
use Rattle.checks.proofs.counts.triangles_in.Goals as goal

pub returns-then-n-ge3 : goal.returns-then-n-ge3
unfolding triangles_of
returns-then-n-ge3 c = rw (le-leb 3 c.args.n c.if-n-ge3.true) refl

pub returns-else-n-ge3 : goal.returns-else-n-ge3
unfolding triangles_of
returns-else-n-ge3 c = rw (lt-leb 3 c.args.n c.if-n-ge3.false) refl
