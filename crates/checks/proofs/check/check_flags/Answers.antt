-- `checks::check::check_flags` meets its contract: what the search finds is the refusal. Assumes nothing.
use Rattle.rules.specs.declared.Refusal.TheVariants.{BadFlag}
use Rattle.checks.proofs.InHand.{found_at, found_none}
use Rattle.checks.proofs.check.check_flags.Goals as goal

pub returns-in-Some : goal.returns-in-Some
returns-in-Some c = found_at BadFlag c.first_bad_flag.ensures c.in-Some.is

pub returns : goal.returns
returns c = found_none BadFlag c.first_bad_flag.ensures c.in_default.is
