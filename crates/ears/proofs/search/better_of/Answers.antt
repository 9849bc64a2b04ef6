-- `ears::search::better_of` meets its contract: each arm is the definition with its test known. Assumes nothing.
use Rattle.rules.specs.Ears.{better}
use Rattle.ears.proofs.search.better_of.Goals as goal

pub returns-then-ok-beats : goal.returns-then-ok-beats
unfolding better
returns-then-ok-beats c = rw (← c.beats.ensures, c.if-ok-beats.true)

pub returns-else-ok-beats : goal.returns-else-ok-beats
unfolding better
returns-else-ok-beats c = rw (← c.beats.ensures, c.if-ok-beats.false)
