-- `checker::linked::sides_hold` meets its contract: each link holds. Assumes nothing.
use lib.ListN.{length}
use Rattle.rules.specs.Handed.{mesh_in, link_holds}
use Rattle.checker.specs.Asked.{linked}
use borrow.Author.Rules.{rules}
use borrow.Author.Tests.{tests}
use mathlib.Core.Path.{refl, ◌∙◌}
use mathlib.Core.Bool.{Bool}
use Prim.Native.Nat.{ℕ}
use native.Mathlib.Omega.{arith}
use Rattle.std.proofs.lemmas.Iterator.{YieldsList-from_range}
use Rattle.std.proofs.lemmas.Iterator.Search.{all_from_yields_List}
use Rattle.checker.proofs.Looking.{all_numbers}
use Rattle.checker.proofs.linked.sides_hold.Goals as goal

pub returns : goal.returns
returns c =
    let test : ℕ → Bool = link_holds (mesh_in (linked c.args.mesh.now)) c.args.i in
    all_from_yields_List test _ _ c.all.result c.all.ensures.ran (YieldsList-from_range 0 (length c.args.own.now) (length c.args.own.now) refl (omega arith))
    (λ x b q k. search (rules, tests))
    ∙ all_numbers test (length c.args.own.now)
