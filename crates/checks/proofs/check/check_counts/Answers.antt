-- `checks::check::check_counts` meets its contract: it goes by whether the counts agree. Assumes nothing.
use mathlib.Core.Path.{refl}
use Rattle.rules.specs.Checks.{refuse_if, check_counts}
use Rattle.checks.specs.Answers.{verdict_of}
use Rattle.checks.proofs.check.check_counts.Goals as goal

pub returns-then-counts_agree : goal.returns-then-counts_agree
unfolding verdict_of check_counts refuse_if
returns-then-counts_agree c = λ nvp grid. rw (← c.counts_agree.ensures nvp grid, c.if-counts_agree.true) refl

pub returns : goal.returns
unfolding verdict_of check_counts refuse_if
returns c = λ nvp grid. rw (← c.counts_agree.ensures nvp grid, c.if-counts_agree.false) refl
