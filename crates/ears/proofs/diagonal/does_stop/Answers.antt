-- `ears::diagonal::does_stop` meets its contract: a side apart from the box hits nothing, and each further return is the definition with the tests known
-- up to it. Assumes nothing.
use Rattle.ears.specs.Ring.{side_stops}
use Rattle.ears.proofs.Stops.{passed_by}
use Rattle.ears.proofs.diagonal.does_stop.Goals as goal

pub returns-then-are_apart : goal.returns-then-are_apart
returns-then-are_apart c =
    passed_by c.args.kind c.args.i c.args.j c.args.a c.args.b c.args.k c.args.l c.args.c c.args.d
    c.requires.4 c.requires.2 c.are_apart.ensures c.if-are_apart.true

pub returns-then-at_ends : goal.returns-then-at_ends
unfolding side_stops
returns-then-at_ends c = rw (← c.at_ends.ensures, c.if-at_ends.true)

pub returns-then-shares_end : goal.returns-then-shares_end
unfolding side_stops
returns-then-shares_end c =
    rw (← c.at_ends.ensures, c.if-at_ends.false, ← c.shares_end.ensures, c.if-shares_end.true)

pub returns : goal.returns
unfolding side_stops
returns c =
    rw (← c.at_ends.ensures, c.if-at_ends.false, ← c.shares_end.ensures, c.if-shares_end.false) c.is_hit.ensures
