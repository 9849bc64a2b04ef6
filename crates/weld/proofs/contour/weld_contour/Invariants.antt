use Rattle.weld.proofs.Contours.{Going}
use Rattle.weld.proofs.contour.weld_contour.Given as goal

abbrev pub invariant-loop-i : goal.invariant-loop-i
invariant-loop-i l = Going l.height l.initial.work l.numbers l.t l.nv l.ko l.first l.n l.work l.m l.i
