-- `trails::trail::use_side` meets its contract: the last side is written in the place of side i. Assumes nothing.
use borrow.Author.Rules.{rules}
use Rattle.trails.proofs.Steps.{used}
use Rattle.trails.proofs.trail.use_side.Goals as goal

pub returns : goal.returns
returns c =
    used c.args.part.now c.args.n c.args.i (search rules) (search rules) c.load_side-s.ensures c.store_side.ensures
