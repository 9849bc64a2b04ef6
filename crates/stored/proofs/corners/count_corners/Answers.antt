-- `stored::corners::count_corners` meets its contract: the place of the first 65,535, or the row's length. Assumes nothing.
use lib.Dec.{eqb}
use borrow.Author.Rules.{rules}
use borrow.Author.Tests.{tests}
use Rattle.std.proofs.lemmas.Iterator.{YieldsList-from_slice}
use Rattle.std.proofs.lemmas.Iterator.Search.{position_from_yields_List}
use Rattle.rules.specs.Links.{none}
use Rattle.stored.proofs.Counting.{counted}
use Rattle.stored.proofs.corners.count_corners.Goals as goal

pub returns : goal.returns
returns c =
    counted c.args.row.now
    (position_from_yields_List (λ w. eqb w none) _ _ c.position.result c.position.ensures.ran (YieldsList-from_slice c.args.row.now cc)
    (λ x b q k. search (rules, tests)))
    c.unwrap_or.ensures
