-- `checker::corners::row_holds` meets its contract: each way out is the test with its parts known. Assumes nothing.
use mathlib.Core.Path.{sym, ◌∙◌}
use Prim.Native.Nat.{◌-◌}
use native.Mathlib.Omega.{arith}
use lib.Dec.{eqb}
use lib.ListN.{length}
use borrow.Author.Rules.{rules}
use borrow.Author.Tests.{tests}
use Rattle.std.proofs.lemmas.Iterator.{YieldsList-from_slice}
use Rattle.std.proofs.lemmas.Iterator.Search.{all_from_yields_List}
use Rattle.mem.specs.Slice.{view}
use Rattle.rules.specs.Links.{none}
use Rattle.laws.proofs.HandedWords.{up_to_few}
use Rattle.checker.proofs.Rows.{unused_all, too_few, not_vertices, rest_decides}
use Rattle.checker.proofs.corners.row_holds.Goals as goal

pub returns-then-n-lt3 : goal.returns-then-n-lt3
returns-then-n-lt3 c = too_few _ _ _ c.count_corners-n.ensures.0 c.if-n-lt3.true

pub are_vertices-requires : goal.are_vertices-requires
are_vertices-requires c = omega (arith, c.count_corners-n.ensures.0, up_to_few c.args.row.now)

pub returns-then-are_vertices : goal.returns-then-are_vertices
returns-then-are_vertices c =
    all_from_yields_List (λ v. eqb v none) _ _ c.all.result c.all.ensures.ran
    (YieldsList-from_slice (view c.args.row.now c.count_corners-n.result (length c.args.row.now - c.count_corners-n.result)) cc) (λ x b q k. search (rules, tests))
    ∙ unused_all c.args.row.now c.count_corners-n.result (omega (arith, c.count_corners-n.ensures.0, up_to_few c.args.row.now))
    ∙ rest_decides _ _ _ c.count_corners-n.ensures.0 c.if-n-lt3.false (sym c.are_vertices.ensures ∙ c.if-are_vertices.true)

pub returns-else-are_vertices : goal.returns-else-are_vertices
returns-else-are_vertices c =
    c.if-are_vertices.false ∙ not_vertices _ _ _ c.count_corners-n.ensures.0 c.if-n-lt3.false (sym c.are_vertices.ensures ∙ c.if-are_vertices.false)
