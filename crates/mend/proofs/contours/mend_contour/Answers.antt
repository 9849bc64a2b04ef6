-- `mend::contours::mend_contour` meets its contract: what the walk left closes up. Assumes nothing.
use Prim.Native.Nat.{◌+◌, ◌-◌}
use native.Mathlib.Omega.{arith}
use Rattle.mend.proofs.Contour.{close_ready, contour_mended}
use Rattle.mend.proofs.contours.mend_contour.Goals as goal

pub close_up-requires : goal.close_up-requires
close_up-requires c =
    let s = c.walk-at.result in close_ready c.requires c.walk-at.ensures (s.lo + s.n - s.lo) (omega arith)

pub returns : goal.returns
returns c =
    let s = c.walk-at.result in
    contour_mended c.requires c.walk-at.ensures (s.lo + s.n - s.lo) (omega arith) c.close_up.ensures
