-- `links::portals::portal_at` meets its contract: an open side's link is its portal, another's is what it was. Assumes nothing.
use Rattle.links.proofs.Marks.{portal_open, portal_linked}
use Rattle.links.proofs.portals.portal_at.Goals as goal

pub returns-then-link-eq-NONE : goal.returns-then-link-eq-NONE
returns-then-link-eq-NONE c =
    portal_open c.args.work.now c.args.at c.args.p.n _ c.args.g.grid.w c.args.g.grid.h _ c.args.j c.requires.1.below c.if-link-eq-NONE.true c.requires.0.fits
    c.side_portal.ensures

pub returns : goal.returns
returns c =
    portal_linked c.args.work.now c.args.at c.args.p.n _ c.args.g.grid.w c.args.g.grid.h _ c.args.j c.requires.1.below c.if-link-eq-NONE.false c.requires.0.fits
