-- `links::sides::Joining` meets its contract: the newest free record is joined, if there is one. Assumes nothing.
use Rattle.records.specs.Layout.{most_corners}
use lib.ListN.{length}
use mathlib.Core.Path.{◌≡◌}
use Rattle.links.proofs.Rounds.{end_in, found_in, joined, unjoined, passed}
use borrow.Author.Rules.{rules}
use Rattle.links.proofs.sides.JoiningStep.take.Goals as goal

pub find_free-requires : goal.find_free-requires
find_free-requires c = (c.requires.0.now, end_in c.requires.0 (search rules) c.args.j c.requires.2 c.side_end-b.ensures)

pub join_edge-requires : goal.join_edge-requires
join_edge-requires c =
    let long_p : length c.args.p.corners ≡ most_corners = search rules in
    (c.requires.0.now, found_in c.requires.0 (long_p) c.args.j c.requires.2 c.corner-a.ensures c.side_end-b.ensures (rw c.in-Some.is at c.find_free.ensures))

pub returns-in-Some : goal.returns-in-Some
returns-in-Some c =
    let long_p : length c.args.p.corners ≡ most_corners = search rules in
    joined c.requires.0 (long_p) c.args.j c.requires.2 c.corner-a.ensures c.side_end-b.ensures c.if-b-a.true (rw c.in-Some.is at c.find_free.ensures)
    c.join_edge.ensures

pub returns-in_default : goal.returns-in_default
returns-in_default c =
    let long_p : length c.args.p.corners ≡ most_corners = search rules in
    unjoined c.requires.0 (long_p) c.args.j c.requires.2 c.corner-a.ensures c.side_end-b.ensures c.if-b-a.true (rw c.in_default.is at c.find_free.ensures)

pub returns-else-b-a : goal.returns-else-b-a
returns-else-b-a c =
    let long_p : length c.args.p.corners ≡ most_corners = search rules in
    passed c.requires.0 (long_p) c.args.j c.requires.2 c.corner-a.ensures c.side_end-b.ensures c.if-b-a.false
