-- `links::portals::side_portal` meets its contract: the two places are those of the side's ends. Assumes nothing.
use Rattle.records.specs.Polygons.{end_is, on_next}
use mathlib.Core.Path.{◌≡◌}
use borrow.Author.Rules.{rules}
use lib.ListN.{length}
use Rattle.records.specs.Layout.{most_corners}
use Rattle.links.proofs.portals.side_portal.Goals as goal

pub place_of-b-requires : goal.place_of-b-requires
place_of-b-requires c =
    (c.requires.0, c.requires.1, on_next c.args.p (search rules) c.args.j c.requires.2 _ c.next.ensures)

pub returns : goal.returns
returns c =
    let long_p : length c.args.p.corners ≡ most_corners = search rules in
    rw (
      c.portal_of.ensures,
      c.place_of-b.ensures.0,
      c.place_of-a.ensures.0,
      end_is c.args.p (long_p) c.args.j c.requires.2 _ c.next.ensures,
    )
