use Rattle.mem.specs.Tab.{tab}
use Rattle.records.specs.Layout.{side_in}
use Rattle.records.specs.Fixed.{side_fixed, word_at, fixed_loaded}
use borrow.Author.Rules.{rules}
use Rattle.records.proofs.side.load_side.Goals as goal

-- src/side.rt:13:1
pub returns : goal.returns
unfolding tab word_at side_in
returns c = fixed_loaded side_fixed _ _ _ _ (search rules) (search rules)
