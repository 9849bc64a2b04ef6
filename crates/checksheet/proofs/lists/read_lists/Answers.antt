-- `checksheet::lists::read_lists` meets its contract: the vertices, the polygons, and no line behind them. Assumes nothing.
use Rattle.lines.specs.Exits.{passed_on}
use Rattle.checksheet.proofs.Resting.{place_of_good}
use Rattle.checksheet.proofs.ListLines.{lists_bad, lists_stopped, lists_over, lists_end}
use Rattle.checksheet.proofs.lists.read_lists.Goals as goal

pub returns-in_err-p : goal.returns-in_err-p
returns-in_err-p c =
    rw (passed_on _ c.from_residual.ensures.1) (lists_bad c.read_places.ensures c.args.words c.args.n c.in_err-p.was _ _)

pub read_polygons-requires : goal.read_polygons-requires
read_polygons-requires c =
    record {
      within = place_of_good c.args.text.now c.read_places.ensures.within c.in_ok-p.was;
      few = c.requires.few;
      room = c.requires.room;
      links = c.requires.links;
    }

pub returns-in_err-end : goal.returns-in_err-end
returns-in_err-end c =
    rw (passed_on _ c.from_residual-in_err-end.ensures.1)
    (lists_stopped c.read_places.ensures c.args.words c.args.n c.in_ok-p.was c.read_polygons.ensures c.in_err-end.was)

pub returns-then-end-text : goal.returns-then-end-text
returns-then-end-text c =
    lists_over c.read_places.ensures c.args.words c.args.n c.in_ok-p.was c.read_polygons.ensures c.in_ok-end.was c.if-end-text.true

pub returns : goal.returns
returns c =
    lists_end c.read_places.ensures c.args.words c.args.n c.in_ok-p.was c.read_polygons.ensures c.in_ok-end.was c.if-end-text.false
