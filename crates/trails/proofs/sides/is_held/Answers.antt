-- `trails::sides::is_held` meets its contract: a polygon holds the vertex if any of its corners is the vertex. Assumes nothing.
use mathlib.Core.Bool.{Bool}
use Prim.Native.Nat.{ℕ}
use lib.Dec.{eqb}
use borrow.Author.Rules.{rules}
use borrow.Author.Tests.{tests}
use Rattle.std.proofs.Common.{◌∙◌}
use Rattle.std.proofs.lemmas.Iterator.{YieldsList-from_slice}
use Rattle.std.proofs.lemmas.Iterator.Search.{any_from_yields_List}
use Rattle.records.specs.Corners.{stands_at}
use Rattle.trails.proofs.Given.{any_held}
use Rattle.trails.proofs.sides.is_held.Goals as goal

pub corners_from-requires : goal.corners_from-requires
corners_from-requires c = stands_at _ _ _ _ c.requires.0 c.requires.1 c.requires.2

pub returns : goal.returns
returns c =
    let test : ℕ → Bool = λ x. eqb x c.args.rem in
    any_from_yields_List test _ _ c.any.result c.any.ensures.ran (YieldsList-from_slice c.corners_from.result.now cc) (λ x b q k. search (rules, tests))
    ∙ rw c.corners_from.ensures (any_held c.args.work.now c.args.polygons.at c.args.polygons.n c.args.i c.requires.0 c.requires.1 c.args.rem)
