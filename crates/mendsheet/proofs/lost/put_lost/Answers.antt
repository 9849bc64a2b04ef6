use mathlib.Core.Path.{refl}
use Rattle.lines.specs.Pieces.{pieces_none, pieces_room, pieces_more, pieces_all}
use Rattle.mendsheet.specs.Print.{lost_text_of}
use Rattle.mendsheet.proofs.lost.put_lost.Goals as goal

pub loop-k-init : goal.loop-k-init
unfolding lost_text_of
loop-k-init c = pieces_none _ _ refl c.requires.room

pub put_lost_line-to-requires : goal.put_lost_line-to-requires
put_lost_line-to-requires c =
    record { few = c.requires.few; room = pieces_room c.loop-k.invariant c.loop-k-test.true }

pub loop-k-preserved : goal.loop-k-preserved
loop-k-preserved c =
    pieces_more c.loop-k.invariant c.loop-k-test.true c.put_lost_line-to.ensures

pub returns : goal.returns
returns c = pieces_all c.loop-k.invariant c.loop-k-test.false
