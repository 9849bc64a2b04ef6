-- `removals::close::close_hole` meets its contract: by whether the last point has the number of the first. Assumes nothing.
use Rattle.removals.proofs.Ends.{closes, stays_open}
use Rattle.removals.proofs.close.close_hole.Goals as goal

pub returns-then-last-first : goal.returns-then-last-first
returns-then-last-first c =
    closes c.args.work.now c.args.q c.args.n c.requires.0 c.requires.1 c.load_point-first.ensures c.load_point-last.ensures c.if-last-first.true
    c.store_point.ensures

pub returns : goal.returns
returns c =
    stays_open c.args.work.now c.args.q c.args.n c.requires.0 c.requires.1 c.load_point-first.ensures c.load_point-last.ensures c.if-last-first.false
