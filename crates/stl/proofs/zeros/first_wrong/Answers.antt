-- `stl::zeros::first_wrong` meets its contract: what `find` gives is the first byte that is wrong. Assumes nothing.
use mathlib.Core.Path.{◌≡◌}
use mathlib.Core.Bool.{true, false}
use lib.ListN.{length}
use borrow.Author.Rules.{rules}
use borrow.Author.Tests.{tests}
use Rattle.std.proofs.lemmas.Iterator.{first_from_Range}
use Rattle.rules.specs.Stl.{wrong_at, first_wrong}
use Rattle.checker.proofs.Looking.{first_is}
use Rattle.stl.proofs.zeros.first_wrong.Goals as goal

pub returns : goal.returns
unfolding first_wrong
returns c =
    let bs = c.args.file.now in
    first_is (wrong_at bs) (length bs) c.find.result
    (first_from_Range _ _ _ c.find.result (λ i. wrong_at bs i ≡ true) (λ i. wrong_at bs i ≡ false)
    c.find.ensures.ran (λ x q k. search (rules, tests)) (λ x q k. search (rules, tests)))
