-- `ears::diagonal::in_cone` meets its contract: each arm is the definition with its test known. Assumes nothing.
use Rattle.rules.specs.Diagonal.{in_cone}
use Rattle.ears.proofs.diagonal.in_cone.Goals as goal

pub returns-then-is_left_on : goal.returns-then-is_left_on
unfolding in_cone
returns-then-is_left_on c = rw (← c.is_left_on.ensures, c.if-is_left_on.true, c.left_by.ensures, c.left_by-then-is_left_on.ensures)

pub returns-else-is_left_on : goal.returns-else-is_left_on
unfolding in_cone
returns-else-is_left_on c =
    rw (← c.is_left_on.ensures, c.if-is_left_on.false, c.is_left_on-else-is_left_on.ensures, c.is_left_on-else-is_left_on-2.ensures)
