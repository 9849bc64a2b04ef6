-- `checker::portals::sides_bear` meets its contract: each side bears what it is to. Assumes nothing.
use lib.ListN.{length}
use Rattle.checker.specs.Steps.{side_bears}
use borrow.Author.Rules.{rules}
use borrow.Author.Tests.{tests}
use mathlib.Core.Path.{refl, ◌∙◌}
use mathlib.Core.Bool.{Bool}
use Prim.Native.Nat.{ℕ}
use native.Mathlib.Omega.{arith}
use Rattle.std.proofs.lemmas.Iterator.{YieldsList-from_range}
use Rattle.std.proofs.lemmas.Iterator.Search.{all_from_yields_List}
use Rattle.checker.proofs.Looking.{all_numbers}
use Rattle.checker.proofs.portals.sides_bear.Goals as goal

pub returns : goal.returns
returns c =
    let test : ℕ → Bool = side_bears c.args.vertices.now c.args.grid.w c.args.grid.h c.args.grid.border c.args.own.now c.args.mine.now in
    all_from_yields_List test _ _ c.all.result c.all.ensures.ran (YieldsList-from_range 0 (length c.args.own.now) (length c.args.own.now) refl (omega arith))
    (λ x b q k. search (rules, tests))
    ∙ all_numbers test (length c.args.own.now)
