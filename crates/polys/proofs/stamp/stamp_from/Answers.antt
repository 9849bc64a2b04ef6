use mathlib.Core.Path.{refl, ap, ◌∙◌}
use lib.Bits.{bit_or}
use Rattle.mem.specs.Loops.{doing_more, doing_end}
use Rattle.laws.specs.Stamps.{stamp_bit, stamp_with, stamp_of}
use Rattle.polys.proofs.stamp.stamp_from.Goals as goal

pub loop-i-init : goal.loop-i-init
unfolding stamp_of
loop-i-init c = record { same = rw c.count_from-n.ensures refl }

pub loop-i-preserved : goal.loop-i-preserved
unfolding stamp_with
loop-i-preserved c =
    doing_more c.loop-i.invariant c.loop-i-test.true
    (ap (bit_or c.loop-i.s) (c.stamp_bit-s.ensures ∙ ap stamp_bit c.corner_from.ensures))

pub returns : goal.returns
returns c = doing_end c.loop-i.invariant c.loop-i-test.false
