-- `mend::ends::off` meets its contract: two numbers are read, and one is lost after the other. Assumes nothing.
use Rattle.mend.proofs.OffEnds.{off_lose, off_left}
use Rattle.mend.proofs.ends.off.Goals as goal

pub lose-requires : goal.lose-requires
lose-requires g c =
    off_lose c.requires c.link_at-p.ensures c.link_at-q.ensures

pub returns : goal.returns
returns g c =
    off_left c.args.stack.now c.args.kept c.args.gone c.args.lo c.link_at-p.ensures
    c.link_at-q.ensures c.lose.ensures
