use native.Mathlib.Omega.{arith}
use Rattle.mem.specs.Packed.{laid_none}
use Rattle.outputs.proofs.Words.{vertex_narrow}
use Rattle.outputs.proofs.Copies.{vertex_copied, vertices_copied}
use Rattle.outputs.proofs.vertices.copy_vertices.Goals as goal

pub loop-k-init : goal.loop-k-init
loop-k-init c = laid_none _ _ _ _

pub overflow_cast-out : goal.overflow_cast-out
overflow_cast-out c = record { fits = omega (arith, vertex_narrow c.requires _ c.loop-k-test.true) }

pub overflow_cast-out-in-loop-k : goal.overflow_cast-out-in-loop-k
overflow_cast-out-in-loop-k c = record { fits = omega (arith, vertex_narrow c.requires _ c.loop-k-test.true) }

pub overflow_cast-out-in-loop-k-2 : goal.overflow_cast-out-in-loop-k-2
overflow_cast-out-in-loop-k-2 c = record { fits = omega (arith, vertex_narrow c.requires _ c.loop-k-test.true) }

pub loop-k-preserved : goal.loop-k-preserved
loop-k-preserved c = vertex_copied _ _ _ c.loop-k.invariant c.loop-k-test.true

pub returns : goal.returns
returns c = vertices_copied _ _ _ c.loop-k.invariant c.loop-k-test.false
