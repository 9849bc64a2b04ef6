use Rattle.holes.proofs.Clears.{taking_begin, taking_fits, taking_small, taking_ready, taking_pass, taking_out, taking_end}
use Rattle.holes.proofs.clear.take_out.Goals as goal

pub loop-i-init : goal.loop-i-init
loop-i-init c = taking_begin c.requires.standing _ c.requires.tidy

pub is_held-requires : goal.is_held-requires
is_held-requires c =
    (taking_fits c.requires.standing _ c.loop-i.invariant, c.loop-i-test.true, taking_small c.requires.standing _ c.loop-i.invariant)

pub swap_remove-requires : goal.swap_remove-requires
swap_remove-requires c = taking_ready c.requires.standing _ c.loop-i.invariant c.loop-i-test.true

pub loop-i-preserved-then-is_held : goal.loop-i-preserved-then-is_held
loop-i-preserved-then-is_held c =
    taking_out c.requires.standing _ c.loop-i.invariant c.loop-i-test.true c.is_held.ensures c.if-is_held.true
    c.swap_remove.auto.work c.swap_remove.ensures

pub loop-i-preserved : goal.loop-i-preserved
loop-i-preserved c =
    taking_pass c.requires.standing _ c.loop-i.invariant c.loop-i-test.true c.is_held.ensures c.if-is_held.false

pub returns : goal.returns
returns c = record { left = taking_end c.requires.standing _ c.loop-i.invariant c.loop-i-test.false }
