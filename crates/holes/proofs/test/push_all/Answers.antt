use Prim.Native.Nat.{◌+◌, ◌≤◌}
use native.Mathlib.Omega.{arith}
use lib.ListN.{length}
use Rattle.rules.specs.Removal.{neighbours_in}
use Rattle.records.specs.Values.{corners_of}
use Rattle.holes.proofs.Pushes.{look_none, look_small, look_end, look_past, look_twice, look_room, look_more}
use borrow.Author.Rules.{rules}
use Rattle.holes.proofs.test.push_all.Goals as goal
use Rattle.holes.proofs.test.push_all.Goals.{then-is_held+else-holds_in-gt1, else-is_held}

pub loop-i-init : goal.loop-i-init
loop-i-init c = look_none c.requires _

pub is_held-requires : goal.is_held-requires
is_held-requires c = (search rules, search rules, look_small c.requires _ c.loop-i.invariant)

pub load_at-p-requires : goal.load_at-p-requires
load_at-p-requires c = (search rules, search rules, look_small c.requires _ c.loop-i.invariant)

pub returns-then-holds_in-gt1 : goal.returns-then-holds_in-gt1
returns-then-holds_in-gt1 c =
    look_twice c.requires _ c.loop-i.invariant (search rules) c.load_at-p.ensures c.holds_in.ensures (omega (arith, c.if-holds_in-gt1.true))

pub push_neighbours-k-requires : goal.push_neighbours-k-requires
push_neighbours-k-requires c =
    let room_at : let g = c.args in
    g.q + c.loop-i.k + length (neighbours_in g.rem (corners_of c.load_at-p.result)) ≤ length c.loop-i.work =
    look_room c.requires _ c.loop-i.invariant (search rules) c.load_at-p.ensures c.holds_in.ensures
    (omega (arith, c.if-holds_in-gt1.false)) in
    (search rules, room_at)

pub overflow_add-k : goal.overflow_add-k
overflow_add-k c =
    let room_at : let g = c.args in
    g.q + c.loop-i.k + length (neighbours_in g.rem (corners_of c.load_at-p.result)) ≤ length c.loop-i.work =
    look_room c.requires _ c.loop-i.invariant (search rules) c.load_at-p.ensures c.holds_in.ensures
    (omega (arith, c.if-holds_in-gt1.false)) in
    let r = room_at in search rules

pub loop-i-preserved : goal.loop-i-preserved
loop-i-preserved c =
    let r = c.requires in
    let l = c.loop-i.invariant in
    elim c.if-is_held.branch [
      | then-is_held+else-holds_in-gt1 w ↦ rw (w.work-is, w.k-is) (look_more r _ l (search rules) w.load_at-p.ensures
          w.holds_in.ensures (omega (arith, w.if-holds_in-gt1.false)) w.push_neighbours-k.ensures)
      | else-is_held w ↦ rw (w.work-is, w.k-is)
          (look_past r _ l (search rules) c.is_held.ensures w.if-is_held.false)
    ]

pub returns : goal.returns
returns c = look_end c.requires _ c.loop-i.invariant (search rules)
