-- `contours::shape::shape_contour` meets its contract: after i turns the first i triangles are polygons. Assumes nothing.
use Prim.Native.Nat.{◌-◌}
use Rattle.contours.proofs.Shapes.{Shaped}
use Rattle.contours.proofs.shape.shape_contour.Given as goal

abbrev pub invariant-loop-i : goal.invariant-loop-i
invariant-loop-i l = Shaped l.initial.work l.at l.ko l.n l.to l.k l.region l.code l.work l.i
