-- `ears::index::is_marked` meets its contract: the top bit tells the words from 2^31 on. Assumes nothing.
use borrow.Author.Rules.{rules}
use Rattle.rules.specs.Ears.{is_marked}
use Rattle.ears.proofs.Bits.{top_bit}
use Rattle.ears.proofs.index.is_marked.Goals as goal

pub returns : goal.returns
unfolding is_marked
returns c = top_bit c.args.w (search rules)
