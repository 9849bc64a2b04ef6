-- `ears::cut::remark_gap` meets its contract: two marks, one after the other, each of words that are ready. Assumes nothing.
use native.Mathlib.Omega.{arith}
use Rattle.laws.proofs.Ring.{next_below}
use Rattle.laws.proofs.Ring.{prev_below}
use Rattle.ears.proofs.Parts.{marked_ready, gap_marked}
use Rattle.ears.proofs.cut.remark_gap.Goals as goal

pub remark_in-requires : goal.remark_in-requires
remark_in-requires c =
    (c.requires.0, rw c.prev.ensures (prev_below _ _ c.requires.1), c.requires.2, c.requires.1)

pub remark_in-requires-2 : goal.remark_in-requires-2
remark_in-requires-2 c =
    (marked_ready _ _ _ _ _ _ c.requires.0 c.remark_in.ensures, c.requires.1, rw c.next.ensures (next_below _ _ (omega arith)), c.requires.2)

pub returns : goal.returns
returns c =
    gap_marked _ _ _ _ _ c.requires.0 c.prev.ensures c.next.ensures
    c.remark_in.ensures c.remark_in-2.ensures
