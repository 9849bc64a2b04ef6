-- `checker::ends::corners_end` meets its contract: the corners are those that are counted, behind where the row begins. Assumes nothing.
use Prim.Native.Nat.{◌+◌, ◌-◌, ◌*◌}
use native.Mathlib.Omega.{arith}
use Rattle.checker.specs.Steps.{RowEnds}
use Rattle.checker.proofs.Lent.{row_ends}
use Rattle.checker.proofs.ends.corners_end.Goals as goal

ends : (c : goal.After-count_corners) → let a = c.args in
    RowEnds a.nvp a.polygons.now a.i (a.i * a.nvp + c.count_corners.result)
ends c =
    let wide = c.args.i * c.args.nvp + c.args.nvp - c.args.i * c.args.nvp in
    row_ends c.args.nvp c.args.polygons.now c.args.i wide c.count_corners.result (omega arith) c.requires c.count_corners.ensures

pub overflow_add-result : goal.overflow_add-result
overflow_add-result c = record { fits = omega (arith, (ends c).within) }

pub returns : goal.returns
returns c = ends c
