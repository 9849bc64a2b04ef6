use Rattle.mem.specs.Tab.{tab}
use Rattle.records.specs.Layout.{point_in}
use Rattle.records.specs.Fixed.{point_fixed, word_at, fixed_loaded}
use borrow.Author.Rules.{rules}
use Rattle.records.proofs.point.load_point.Goals as goal

-- src/point.rt:13:1
pub returns : goal.returns
unfolding tab word_at point_in
returns c = fixed_loaded point_fixed _ _ _ _ (search rules) (search rules)
