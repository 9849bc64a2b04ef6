-- `links::edges::find_free` meets its contract: the walk along the lower vertex's records, newest first. Assumes nothing.
use Rattle.links.proofs.Walks.{Search}
use Rattle.links.proofs.edges.find_free.Given as goal

abbrev pub invariant-loop-link : goal.invariant-loop-link
invariant-loop-link l = Search l.work l.t l.nv l.ne l.low l.high l.link

abbrev pub decreases-loop-link : goal.decreases-loop-link
decreases-loop-link l = l.link
