-- `checker::portals::first_bad_portals` meets its contract: what `find` gives is the first at fault. Assumes nothing.
use mathlib.Core.Path.{◌≡◌}
use mathlib.Core.Bool.{true, false, not}
use borrow.Author.Rules.{rules}
use borrow.Author.Tests.{tests}
use Rattle.std.proofs.lemmas.Iterator.{first_from_Range}
use Rattle.rules.specs.Checker.{portals_hold}
use Rattle.checker.specs.Asked.{unclaimed}
use Rattle.checker.proofs.Looking.{first_found}
use Rattle.checker.proofs.portals.first_bad_portals.Goals as goal

pub returns : goal.returns
returns c =
    let holds = portals_hold (unclaimed c.args.mesh.now c.args.grid) in
    first_found holds c.args.np c.find.result
    (first_from_Range _ _ _ c.find.result (λ i. not (holds i) ≡ true) (λ i. not (holds i) ≡ false)
    c.find.ensures.ran (λ x q k. search (rules, tests)) (λ x q k. search (rules, tests)))
