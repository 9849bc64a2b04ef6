use Prim.Native.Nat.{◌+◌, ◌≤◌}
use borrow.Author.Rules.{rules}
use lib.ListN.{length}
use Rattle.rules.specs.Removal.{other_end}
use Rattle.records.specs.Values.{corners_of}
use Rattle.holes.proofs.Pushes.{Piece, pushing_none, pushing_room, pushing_more, pushing_end, ends_from, ends_all, ends_turn, ends_end}
use Rattle.holes.proofs.test.push_neighbours.Goals as goal

pub loop-j-init : goal.loop-j-init
loop-j-init c =
    let g = c.args in
    pushing_none _ _ _ _ (ends_all g.rem g.p (search rules) (search rules)) (search rules)

pub push_end-k-requires : goal.push_end-k-requires
push_end-k-requires c =
    let turn_at : let g = c.args in
    let j = c.loop-j.j in
    Piece (ends_from g.rem (corners_of g.p) g.p.n j) (other_end g.rem c.corner.result c.side_end.result)
    (ends_from g.rem (corners_of g.p) g.p.n (j + 1)) = let g = c.args in
    ends_turn g.rem g.p c.loop-j.j (search rules) c.corner.ensures c.side_end.ensures in
    let room_at : let g = c.args in
    let at = c.loop-j in
    g.at + at.k + length (other_end g.rem c.corner.result c.side_end.result) ≤ length at.work = pushing_room c.loop-j.invariant (turn_at) (search rules) in
    room_at

pub overflow_add-k : goal.overflow_add-k
overflow_add-k c =
    let turn_at : let g = c.args in
    let j = c.loop-j.j in
    Piece (ends_from g.rem (corners_of g.p) g.p.n j) (other_end g.rem c.corner.result c.side_end.result)
    (ends_from g.rem (corners_of g.p) g.p.n (j + 1)) = let g = c.args in
    ends_turn g.rem g.p c.loop-j.j (search rules) c.corner.ensures c.side_end.ensures in
    let room_at : let g = c.args in
    let at = c.loop-j in
    g.at + at.k + length (other_end g.rem c.corner.result c.side_end.result) ≤ length at.work = pushing_room c.loop-j.invariant (turn_at) (search rules) in
    let r = room_at in search rules

pub loop-j-preserved : goal.loop-j-preserved
loop-j-preserved c =
    let turn_at : let g = c.args in
    let j = c.loop-j.j in
    Piece (ends_from g.rem (corners_of g.p) g.p.n j) (other_end g.rem c.corner.result c.side_end.result)
    (ends_from g.rem (corners_of g.p) g.p.n (j + 1)) = let g = c.args in
    ends_turn g.rem g.p c.loop-j.j (search rules) c.corner.ensures c.side_end.ensures in
    let room_at : let g = c.args in
    let at = c.loop-j in
    g.at + at.k + length (other_end g.rem c.corner.result c.side_end.result) ≤ length at.work = pushing_room c.loop-j.invariant (turn_at) (search rules) in
    pushing_more c.loop-j.invariant (turn_at) (room_at) c.push_end-k.ensures

pub returns : goal.returns
returns c =
    let g = c.args in
    pushing_end c.loop-j.invariant (ends_end g.rem g.p c.loop-j.j (search rules))
