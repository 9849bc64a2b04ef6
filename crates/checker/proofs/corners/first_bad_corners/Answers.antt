-- `checker::corners::first_bad_corners` meets its contract: what `find` gives is the first at fault. Assumes nothing.
use mathlib.Core.Path.{◌≡◌}
use mathlib.Core.Bool.{Bool, true, false, not}
use Prim.Native.Nat.{ℕ}
use borrow.Author.Rules.{rules}
use borrow.Author.Tests.{tests}
use Rattle.std.proofs.lemmas.Iterator.{first_from_Range}
use Rattle.checker.specs.Steps.{row_holds, row_at}
use Rattle.checker.proofs.Looking.{first_found}
use Rattle.checker.proofs.corners.first_bad_corners.Goals as goal

pub returns : goal.returns
returns c =
    let holds : ℕ → Bool = λ i. row_holds c.args.nv (row_at c.args.nvp c.args.polygons.now i) in
    first_found holds c.args.np c.find.result
    (first_from_Range _ _ _ c.find.result (λ i. not (holds i) ≡ true) (λ i. not (holds i) ≡ false)
    c.find.ensures.ran (λ x q k. search (rules, tests)) (λ x q k. search (rules, tests)))
