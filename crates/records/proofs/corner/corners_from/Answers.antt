-- `records::corner::corners_from` meets its contract: the corners that count stand behind the three first words. Assumes nothing.
use Rattle.std.proofs.Common.{◌≡◌, ◌+◌, ◌-◌, sym, get_or, arith}
use Rattle.records.specs.Corners.{from_view}
use Rattle.records.proofs.corner.corners_from.Goals as goal

pub returns : goal.returns
returns c =
    let at = c.args.at in
    let n = get_or c.args.work.now at 0 in
    let e : at + 3 + n - (at + 3) ≡ n = omega arith in
    rw e (sym (from_view c.requires))
