-- `mend::ends::off_ends` meets its contract: each case is the turn's own. Assumes nothing.
use native.Mathlib.Omega.{arith}
use Rattle.mend.proofs.EndTurns.{ends_as, near_three, last_three, two_three, near_back, near_front, last_front, two_front, two_again}
use Rattle.mend.proofs.EndTurns.{turned_near, turned_last, turned_two, turned_none}
use Rattle.mend.proofs.ends.off_ends.Goals as goal

pub overflow_sub-last : goal.overflow_sub-last
overflow_sub-last g c =
    let met = ends_as c.args.numbers.now c.args.stack.now c.args.at c.in-Near.is
    c.ends_meet.ensures in
    omega (arith, near_three c.args.numbers.now c.args.stack.now c.args.at met)

pub overflow_sub-last-in-Near : goal.overflow_sub-last-in-Near
overflow_sub-last-in-Near g c =
    let met = ends_as c.args.numbers.now c.args.stack.now c.args.at c.in-Near.is
    c.ends_meet.ensures in
    omega (arith, near_three c.args.numbers.now c.args.stack.now c.args.at met)

pub off-rest-requires : goal.off-rest-requires
off-rest-requires g c =
    let met = ends_as c.args.numbers.now c.args.stack.now c.args.at c.in-Near.is
    c.ends_meet.ensures in
    near_back c.requires met

pub overflow_sub-last-in-Near-2 : goal.overflow_sub-last-in-Near-2
overflow_sub-last-in-Near-2 g c =
    let met = ends_as c.args.numbers.now c.args.stack.now c.args.at c.in-Near.is
    c.ends_meet.ensures in
    omega (arith, near_three c.args.numbers.now c.args.stack.now c.args.at met)

pub off-requires : goal.off-requires
off-requires g c =
    let met = ends_as c.args.numbers.now c.args.stack.now c.args.at c.in-Near.is
    c.ends_meet.ensures in
    near_front c.requires met c.off-rest.ensures

pub overflow_sub-at : goal.overflow_sub-at
overflow_sub-at g c =
    let met = ends_as c.args.numbers.now c.args.stack.now c.args.at c.in-Last.is
    c.ends_meet.ensures in
    omega (arith, last_three c.args.numbers.now c.args.stack.now c.args.at met)

pub off-requires-in-Last : goal.off-requires-in-Last
off-requires-in-Last g c =
    let met = ends_as c.args.numbers.now c.args.stack.now c.args.at c.in-Last.is
    c.ends_meet.ensures in
    last_front c.requires met

pub overflow_sub-last-in-LastTwo : goal.overflow_sub-last-in-LastTwo
overflow_sub-last-in-LastTwo g c =
    let met = ends_as c.args.numbers.now c.args.stack.now c.args.at c.in-LastTwo.is
    c.ends_meet.ensures in
    omega (arith, two_three c.args.numbers.now c.args.stack.now c.args.at met)

pub off-rest-requires-in-LastTwo : goal.off-rest-requires-in-LastTwo
off-rest-requires-in-LastTwo g c =
    let met = ends_as c.args.numbers.now c.args.stack.now c.args.at c.in-LastTwo.is
    c.ends_meet.ensures in
    two_front c.requires met

pub off-requires-in-LastTwo : goal.off-requires-in-LastTwo
off-requires-in-LastTwo g c =
    let met = ends_as c.args.numbers.now c.args.stack.now c.args.at c.in-LastTwo.is
    c.ends_meet.ensures in
    two_again c.requires met c.off-rest-in-LastTwo.ensures

pub returns-in-Near : goal.returns-in-Near
returns-in-Near g c =
    let met = ends_as c.args.numbers.now c.args.stack.now c.args.at c.in-Near.is
    c.ends_meet.ensures in
    turned_near c.args.stack.now met c.off-rest.ensures c.off.ensures

pub returns-in-Last : goal.returns-in-Last
returns-in-Last g c =
    let met = ends_as c.args.numbers.now c.args.stack.now c.args.at c.in-Last.is
    c.ends_meet.ensures in
    turned_last c.args.stack.now met c.off-in-Last.ensures

pub returns-in-LastTwo : goal.returns-in-LastTwo
returns-in-LastTwo g c =
    let met = ends_as c.args.numbers.now c.args.stack.now c.args.at c.in-LastTwo.is
    c.ends_meet.ensures in
    turned_two c.args.stack.now met c.off-rest-in-LastTwo.ensures c.off-in-LastTwo.ensures

pub returns-in-Apart : goal.returns-in-Apart
returns-in-Apart g c =
    let met = ends_as c.args.numbers.now c.args.stack.now c.args.at c.in-Apart.is c.ends_meet.ensures in
    turned_none c.args.stack.now met
