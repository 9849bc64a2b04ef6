use mathlib.Core.Path.{refl}
use Rattle.std.specs.Prelude.{◌≡◌, max}
use borrow.Author.Rules.{rules}
use Rattle.mend.proofs.Longest.{longer_is, longest_begin, longest_more, longest_end}
use Rattle.mend.proofs.job.longest_of.Goals as goal

pub loop-n-init : goal.loop-n-init
loop-n-init c = longest_begin c.args.lengths.now

pub loop-n-preserved : goal.loop-n-preserved
loop-n-preserved c =
    let r : c.max-most.result ≡ max c.loop-n.most _ = search rules in
    longest_more c.loop-n.invariant c.loop-n-test.true refl (longer_is _ _ r)

pub returns : goal.returns
returns c = longest_end c.loop-n.invariant c.loop-n-test.false
