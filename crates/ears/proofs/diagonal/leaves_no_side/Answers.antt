-- `ears::diagonal::leaves_no_side` meets its contract: each arm is the definition with its test known. Assumes nothing.
use borrow.Author.Tests.{lt-ltb, le-ltb}
use Rattle.ears.proofs.diagonal.leaves_no_side.Goals as goal

pub returns-then-n-lt5 : goal.returns-then-n-lt5
returns-then-n-lt5 c = rw (lt-ltb _ _ c.if-n-lt5.true, c.next-then-n-lt5.ensures, c.next.ensures)

pub returns-else-n-lt5 : goal.returns-else-n-lt5
returns-else-n-lt5 c = rw (le-ltb _ _ c.if-n-lt5.false)
