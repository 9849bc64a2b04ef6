-- `holes::test::met_once` meets its contract: the words that stand there once are counted. Assumes nothing.
use Rattle.std.specs.Prelude.{◌≡◌, ℕ, eqb, count_by}
use mathlib.Core.Path.{◌∙◌}
use borrow.Author.Rules.{rules}
use Rattle.rules.specs.Lists.{count}
use Rattle.holes.proofs.Tallies.{once_is}
use Rattle.holes.proofs.test.met_once.Goals as goal

pub returns : goal.returns
returns c =
    let counted : c.count.result ≡ count_by (λ (x : ℕ). eqb (count x c.args.s.now) 1) c.args.s.now = search rules in
    counted ∙ once_is c.args.s.now
