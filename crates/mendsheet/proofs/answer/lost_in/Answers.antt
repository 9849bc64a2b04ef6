-- `mendsheet::answer::lost_in` meets its contract: a refusal has 0 there. Assumes nothing.
use mathlib.Core.Path.{refl}
use Rattle.rules.specs.MendCall.{mend_words}
use Rattle.mendsheet.proofs.answer.lost_in.Goals as goal

pub returns-in-Ok : goal.returns-in-Ok
unfolding mend_words
returns-in-Ok c = rw c.in-Ok.is refl

pub returns-in-Err : goal.returns-in-Err
unfolding mend_words
returns-in-Err c = rw c.in-Err.is refl
