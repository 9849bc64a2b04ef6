-- `checks::check::check_high` meets its contract: what the search finds is the refusal. Assumes nothing.
use Rattle.rules.specs.declared.Refusal.TheVariants.{HighCoordinate}
use Rattle.checks.proofs.InHand.{found_at, found_none}
use Rattle.checks.proofs.check.check_high.Goals as goal

pub returns-in-Some : goal.returns-in-Some
returns-in-Some c = found_at HighCoordinate c.first_high.ensures c.in-Some.is

pub returns : goal.returns
returns c = found_none HighCoordinate c.first_high.ensures c.in_default.is
