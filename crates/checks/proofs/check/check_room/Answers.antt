-- `checks::check::check_room` meets its contract: what the search finds is the refusal. Assumes nothing.
use mathlib.Core.Path.{ap, ◌∙◌}
use Rattle.rules.specs.Checks.{first_short}
use Rattle.rules.specs.declared.Refusal.TheVariants.{ShortBuffer}
use Rattle.checks.proofs.InHand.{found_at, found_none}
use Rattle.checks.proofs.check.check_room.Goals as goal

pub returns-in-Some : goal.returns-in-Some
returns-in-Some c = found_at ShortBuffer (c.first_short.ensures ∙ ap (first_short c.args.have) c.least_lengths.ensures) c.in-Some.is

pub returns : goal.returns
returns c = found_none ShortBuffer (c.first_short.ensures ∙ ap (first_short c.args.have) c.least_lengths.ensures) c.in_default.is
