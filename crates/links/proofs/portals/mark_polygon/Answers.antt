use mathlib.Core.Path.{◌≡◌, refl, ap, ◌∙◌}
use lib.ListN.{length}
use Rattle.mem.specs.Slice.{splice}
use Rattle.mem.specs.Tab.{filled_none, filled_more, filled_all}
use Rattle.records.specs.Layout.{most_corners}
use Rattle.links.proofs.Marks.{still_in_hand, portal_same, all_sides}
use borrow.Author.Rules.{rules}
use Rattle.links.proofs.portals.mark_polygon.Goals as goal

pub loop-j-init : goal.loop-j-init
loop-j-init c = filled_none _ _ _ _

pub portal_at-requires : goal.portal_at-requires
portal_at-requires c =
    (still_in_hand c.requires c.args.g.grid.w c.args.g.grid.h c.loop-j.invariant, record { below = c.loop-j-test.true; most = c.requires.most })

pub loop-j-preserved : goal.loop-j-preserved
loop-j-preserved c =
    filled_more c.loop-j.invariant _ _ refl (portal_same c.requires c.args.g.grid.w c.args.g.grid.h c.loop-j.invariant c.loop-j-test.true c.portal_at.ensures)
    c.loop-j-test.true

pub returns : goal.returns
returns c =
    let long_p : length c.args.p.corners ≡ most_corners = search rules in
    filled_all c.loop-j.invariant c.loop-j-test.false
    ∙ ap (splice c.args.work.now c.args.at) (all_sides c.args.p (long_p) c.requires.most _ c.args.g.grid.w c.args.g.grid.h _)
