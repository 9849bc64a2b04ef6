-- `checker::sides::is_named_back` meets its contract: some side names back. Assumes nothing.
use lib.ListN.{length}
use Rattle.rules.specs.Handed.{names_back}
use borrow.Author.Rules.{rules}
use borrow.Author.Tests.{tests}
use mathlib.Core.Path.{refl, ◌∙◌}
use mathlib.Core.Bool.{Bool}
use Prim.Native.Nat.{ℕ}
use native.Mathlib.Omega.{arith}
use Rattle.std.proofs.lemmas.Iterator.{YieldsList-from_range}
use Rattle.std.proofs.lemmas.Iterator.Search.{any_from_yields_List}
use Rattle.checker.proofs.Looking.{any_numbers}
use Rattle.checker.proofs.sides.is_named_back.Goals as goal

pub returns : goal.returns
returns c =
    let test : ℕ → Bool = names_back c.args.corners.now c.args.links.now c.args.a c.args.b c.args.i in
    any_from_yields_List test _ _ c.any.result c.any.ensures.ran (YieldsList-from_range 0 (length c.args.corners.now) (length c.args.corners.now) refl (omega arith))
    (λ x b q k. search (rules, tests))
    ∙ any_numbers test (length c.args.corners.now)
