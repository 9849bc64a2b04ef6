-- `checks::counts::counts_agree` meets its contract: with too many contours nothing agrees, and otherwise the three tests that are left are made. Assumes nothing.
use native.Mathlib.Omega.{arith}
use Rattle.checks.specs.Answers.{job_in}
use Rattle.checks.proofs.InHand.{too_many, agree_is}
use Rattle.checks.proofs.counts.counts_agree.Goals as goal

pub returns-then-n-gt-MOST_CONTOURS : goal.returns-then-n-gt-MOST_CONTOURS
returns-then-n-gt-MOST_CONTOURS c = λ nvp grid. too_many (job_in nvp grid c.args.set.now) (omega arith)

pub returns : goal.returns
returns c = λ nvp grid. agree_is (job_in nvp grid c.args.set.now) c.count_all-all.ensures.is c.if-n-gt-MOST_CONTOURS.false
