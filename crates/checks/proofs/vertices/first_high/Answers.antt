-- `checks::vertices::first_high` meets its contract: `find` looks at the vertices in their order, as the rules do. Assumes nothing.
use Rattle.std.proofs.Common.{◌≡◌, true, false, rules, tests}
use Rattle.std.proofs.lemmas.Iterator.{first_from_Range}
use Prim.Native.Nat.{ℕ}
use mathlib.Core.Bool.{Bool}
use Rattle.rules.specs.Job.{vertex_at}
use Rattle.rules.specs.Checks.{is_high}
use Rattle.checks.specs.Answers.{first_high_in}
use Rattle.checks.proofs.Seeking.{found_first}
use Rattle.checks.proofs.vertices.first_high.Goals as goal

pub returns : goal.returns
unfolding first_high_in
returns c =
    let test : ℕ → Bool = λ k. is_high (vertex_at c.args.numbers.now k) in
    found_first test c.args.n _ (first_from_Range _ _ _ _ (λ k. test k ≡ true) (λ k. test k ≡ false) c.find.ensures.ran
    (λ x q k. search (rules, tests)) (λ x q k. search (rules, tests)))
