-- `checker::buffers::are_in_grid` meets its contract: no vertex is high. Assumes nothing.
use mathlib.Core.Bool.{Bool, not}
use Rattle.rules.specs.Checks.{is_high}
use Rattle.stored.specs.Stored.{vertex_in}
use borrow.Author.Rules.{rules}
use borrow.Author.Tests.{tests}
use mathlib.Core.Path.{refl, ◌∙◌}
use Prim.Native.Nat.{ℕ}
use native.Mathlib.Omega.{arith}
use Rattle.std.proofs.lemmas.Iterator.{YieldsList-from_range}
use Rattle.std.proofs.lemmas.Iterator.Search.{all_from_yields_List}
use Rattle.checker.specs.Steps.{grid_holds}
use Rattle.checker.proofs.Looking.{all_numbers}
use Rattle.checker.proofs.buffers.are_in_grid.Goals as goal

pub returns : goal.returns
unfolding grid_holds
returns c =
    let test : ℕ → Bool = λ k. not (is_high (vertex_in c.args.vertices.now k)) in
    all_from_yields_List test _ _ c.all.result c.all.ensures.ran (YieldsList-from_range 0 (c.args.n) (c.args.n) refl (omega arith))
    (λ x b q k. search (rules, tests))
    ∙ all_numbers test (c.args.n)
