-- `checker::corners::are_vertices` meets its contract: `all` of the words in front is what the definition says of them. Assumes nothing.
use mathlib.Core.Path.{◌∙◌}
use lib.Dec.{ltb}
use lib.ListN.{take}
use borrow.Author.Rules.{rules}
use borrow.Author.Tests.{tests}
use Rattle.std.proofs.lemmas.Iterator.{YieldsList-from_slice}
use Rattle.std.proofs.lemmas.Iterator.Search.{all_from_yields_List}
use Rattle.checker.proofs.Looking.{all_taken}
use Rattle.checker.proofs.corners.are_vertices.Goals as goal

pub returns : goal.returns
returns c =
    all_from_yields_List (λ v. ltb v c.args.nv) _ _ c.all.result c.all.ensures.ran (YieldsList-from_slice (take c.args.n c.args.row.now) cc)
    (λ x b q k. search (rules, tests))
    ∙ all_taken (λ v. ltb v c.args.nv) c.args.row.now c.args.n c.requires
