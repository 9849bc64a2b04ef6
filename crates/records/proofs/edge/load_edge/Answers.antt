use Rattle.mem.specs.Tab.{tab}
use Rattle.records.specs.Layout.{edge_in}
use Rattle.records.specs.Fixed.{edge_fixed, word_at, fixed_loaded}
use borrow.Author.Rules.{rules}
use Rattle.records.proofs.edge.load_edge.Goals as goal

-- src/edge.rt:13:1
pub returns : goal.returns
unfolding tab word_at edge_in
returns c = fixed_loaded edge_fixed _ _ _ _ (search rules) (search rules)
