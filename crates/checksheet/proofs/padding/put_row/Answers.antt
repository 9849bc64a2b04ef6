use mathlib.Core.Path.{refl}
use Rattle.mem.specs.Tab.{filled_none, filled_more}
use Rattle.checksheet.proofs.Padded.{padded_put}
use Rattle.checksheet.proofs.padding.put_row.Goals as goal

pub loop-i-init : goal.loop-i-init
loop-i-init g c = filled_none _ _ _ _

pub stored-requires : goal.stored-requires
stored-requires g c = c.requires.small c.loop-i.i c.loop-i-test.true

pub loop-i-preserved : goal.loop-i-preserved
loop-i-preserved g c = filled_more c.loop-i.invariant _ _ refl c.stored.ensures c.loop-i-test.true

pub returns : goal.returns
returns g c =
    padded_put g.T.Word.word c.args.values.now c.args.row.now c.args.at c.args.n c.loop-i.i c.loop-i.invariant c.loop-i-test.false c.stored-2.ensures c.fill.ensures
