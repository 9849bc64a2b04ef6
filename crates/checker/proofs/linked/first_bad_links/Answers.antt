-- `checker::linked::first_bad_links` meets its contract: what `find` gives is the first at fault. Assumes nothing.
use mathlib.Core.Path.{◌≡◌}
use mathlib.Core.Bool.{true, false, not}
use borrow.Author.Rules.{rules}
use borrow.Author.Tests.{tests}
use Rattle.std.proofs.lemmas.Iterator.{first_from_Range}
use Rattle.rules.specs.Handed.{links_hold}
use Rattle.checker.specs.Asked.{linked}
use Rattle.checker.proofs.Looking.{first_found}
use Rattle.checker.proofs.linked.first_bad_links.Goals as goal

pub returns : goal.returns
returns c =
    first_found (links_hold (linked c.args.mesh.now)) c.args.np c.find.result
    (first_from_Range _ _ _ c.find.result (λ i. not (links_hold (linked c.args.mesh.now) i) ≡ true) (λ i. not (links_hold (linked c.args.mesh.now) i) ≡ false)
    c.find.ensures.ran (λ x q k. search (rules, tests)) (λ x q k. search (rules, tests)))
