-- `mend::pass::pass` meets its contract: each case is a loss, two losses, or a number more on the stack. Assumes nothing.
use native.Mathlib.Omega.{arith}
use Rattle.mend.proofs.Passing.{met_as, second_tall, lose_top, lose_tip, lose_back, passed_joined, passed_lost, passed_turned}
use Rattle.mend.proofs.pass.pass.Goals as goal

pub lose-requires : goal.lose-requires
lose-requires g c =
    let met = met_as c.args.numbers.now c.args.work.now c.args.at.top c.args.e c.args.j
    c.in-Top.is c.meeting.ensures in
    lose_top c.requires c.link_at-p.result met c.link_at-p.ensures

pub overflow_add-result : goal.overflow_add-result
overflow_add-result g c =
    record { fits = omega (arith, c.requires.few) }

pub overflow_sub-top-in-Second : goal.overflow_sub-top-in-Second
overflow_sub-top-in-Second g c =
    let met = met_as c.args.numbers.now c.args.work.now c.args.at.top c.args.e c.args.j
    c.in-Second.is c.meeting.ensures in
    second_tall c.args.numbers.now c.args.work.now c.args.at.top c.args.e c.args.j met

pub lose-requires-in-Second : goal.lose-requires-in-Second
lose-requires-in-Second g c =
    let met = met_as c.args.numbers.now c.args.work.now c.args.at.top c.args.e c.args.j
    c.in-Second.is c.meeting.ensures in
    lose_tip c.requires c.link_at-p-in-Second.result c.link_at-q.result met c.link_at-p-in-Second.ensures c.link_at-q.ensures

pub overflow_add-lost : goal.overflow_add-lost
overflow_add-lost g c =
    record { fits = omega (arith, c.requires.few) }

pub lose-requires-in-Second-2 : goal.lose-requires-in-Second-2
lose-requires-in-Second-2 g c =
    let met = met_as c.args.numbers.now c.args.work.now c.args.at.top c.args.e c.args.j
    c.in-Second.is c.meeting.ensures in
    lose_back c.requires c.link_at-p-in-Second.result c.link_at-q.result met c.link_at-p-in-Second.ensures c.lose-in-Second.ensures

pub overflow_add-result-in-Second : goal.overflow_add-result-in-Second
overflow_add-result-in-Second g c =
    record { fits = omega (arith, c.requires.few) }

pub returns-in-Top : goal.returns-in-Top
returns-in-Top g c =
    let met = met_as c.args.numbers.now c.args.work.now c.args.at.top c.args.e c.args.j
    c.in-Top.is c.meeting.ensures in
    passed_lost c.link_at-p.result met c.requires.meets.some c.link_at-p.ensures c.lose.ensures

pub returns-in-Second : goal.returns-in-Second
returns-in-Second g c =
    let met = met_as c.args.numbers.now c.args.work.now c.args.at.top c.args.e c.args.j
    c.in-Second.is c.meeting.ensures in
    passed_turned c.link_at-p-in-Second.result c.link_at-q.result met c.link_at-p-in-Second.ensures c.link_at-q.ensures
    c.lose-in-Second.ensures c.lose-in-Second-2.ensures

pub returns-in-Neither : goal.returns-in-Neither
returns-in-Neither g c =
    let met = met_as c.args.numbers.now c.args.work.now c.args.at.top c.args.e c.args.j
    c.in-Neither.is c.meeting.ensures in
    passed_joined met c.requires.fits
