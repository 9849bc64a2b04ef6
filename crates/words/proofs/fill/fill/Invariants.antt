-- `words::fill::fill` meets its contract: each element from `at` on is x. Assumes nothing.
use Rattle.mem.specs.Tab.{Filled}
use Rattle.words.proofs.fill.fill.Given as goal

abbrev pub invariant-loop-item : goal.invariant-loop-item
invariant-loop-item g l = Filled l.initial.item-items 0 (λ k. l.x) l.item-index-end l.item-items l.item-index
