-- `ears::search::find_ear` meets its contract: a marked ear, or else what the closure finds. Assumes nothing.
use borrow.Author.Rules.{rules}
use Rattle.ears.proofs.Tries.{found}
use Rattle.ears.proofs.search.find_ear.Goals as goal

pub returns : goal.returns
returns c = found _ _ c.least_ear.result c.least_ear.ensures c.or_else.ensures (λ h. search rules)
