-- `links::sides::Recording` meets its contract: a side that runs from a lower to a higher vertex is one record more. Assumes nothing.
use mathlib.Core.Path.{◌≡◌}
use Rattle.records.specs.Layout.{most_corners}
use lib.ListN.{length}
use Rattle.links.proofs.Rounds.{start_in, recorded, unrecorded}
use borrow.Author.Rules.{rules}
use Rattle.links.proofs.sides.RecordingStep.take.Goals as goal

pub put_edge-requires : goal.put_edge-requires
put_edge-requires c = (c.requires.0.now, c.requires.1, start_in c.requires.0 (search rules) c.args.j c.requires.2 c.corner-a.ensures)

pub returns-then-a-b : goal.returns-then-a-b
returns-then-a-b c =
    let long_p : length c.args.p.corners ≡ most_corners = search rules in
    recorded c.requires.0 (long_p) c.args.j c.requires.2 c.corner-a.ensures c.side_end-b.ensures c.if-a-b.true c.put_edge.ensures

pub returns : goal.returns
returns c =
    let long_p : length c.args.p.corners ≡ most_corners = search rules in
    unrecorded c.requires.0 (long_p) c.args.j c.requires.2 c.corner-a.ensures c.side_end-b.ensures c.if-a-b.false
