-- `contours::gather::add_contours` meets its contract: after c contours the mesh in the buffer is the rules' after c contours. Assumes nothing.
use Prim.Native.Nat.{◌-◌}
use lib.ListN.{length}
use Rattle.checks.specs.Answers.{no_grid, job_in}
use Rattle.contours.proofs.Gathers.{Going}
use Rattle.contours.proofs.gather.add_contours.Given as goal

abbrev pub invariant-loop-c : goal.invariant-loop-c
invariant-loop-c l = Going l.initial.work l.g (job_in l.nvp no_grid l.set) l.work l.n.vertices l.n.polygons l.first l.c
