-- `checker::check::links_sound` meets its contract: what the search finds is the fault. Assumes nothing.
use Rattle.std.specs.Prelude.{Ok}
use Rattle.rules.specs.declared.Fault.TheVariants.{BadLinks}
use Rattle.checker.proofs.Verdicts.{fault_found, none_found}
use Rattle.checker.proofs.check.links_sound.Goals as goal

pub returns-in-Some : goal.returns-in-Some
returns-in-Some c = fault_found BadLinks (Ok tt) c.first_bad_links.ensures c.in-Some.is

pub returns-in-None : goal.returns-in-None
returns-in-None c = none_found BadLinks (Ok tt) c.first_bad_links.ensures c.in-None.is
