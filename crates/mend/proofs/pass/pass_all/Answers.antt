use lib.ListN.{length-set}
use mathlib.Core.Path.{◌∙◌}
use Rattle.mend.proofs.Going.{going_begin, going_ready, going_more, going_end}
use Rattle.mend.proofs.pass.pass_all.Goals as goal

pub loop-j-init : goal.loop-j-init
loop-j-init g c =
    going_begin c.requires

pub pass-at-requires : goal.pass-at-requires
pass-at-requires g c =
    going_ready c.requires c.loop-j.invariant (length-set c.args.work.now 0 c.args.first) c.loop-j-test.true

pub loop-j-preserved : goal.loop-j-preserved
loop-j-preserved g c =
    going_more c.requires c.loop-j.invariant (length-set c.args.work.now 0 c.args.first) c.loop-j-test.true
    c.pass-at.ensures

pub shape_of-work : goal.shape_of-work
shape_of-work g c =
    c.loop-j.invariant.long_work ∙ length-set c.args.work.now 0 c.args.first

pub returns : goal.returns
returns g c =
    going_end c.requires c.loop-j.invariant c.loop-j-test.false
