-- `checker::buffers::buffers_hold` meets its contract: each test that fails contradicts sound buffers, and if none does the grid decides. Assumes nothing.
use mathlib.Core.Path.{◌∙◌}
use native.Mathlib.Nat.{div-mul-le_self}
use native.Mathlib.Omega.{arith}
use lib.ListN.{length}
use Rattle.checker.proofs.Blocks.{limits_fail, counts_fail, blocks_fail, grid_decides, wide_enough}
use Rattle.checker.proofs.buffers.buffers_hold.Goals as goal

pub nonzero_div-np : goal.nonzero_div-np
nonzero_div-np c = let a = c.args in wide_enough a.mesh.now.nvp a.mesh.now.vertices.now a.mesh.now.polygons.now a.mesh.now.links.now c.if-mesh.false

pub returns-then-mesh : goal.returns-then-mesh
returns-then-mesh c = let a = c.args in limits_fail a.mesh.now.nvp a.mesh.now.vertices.now a.mesh.now.polygons.now a.mesh.now.links.now c.if-mesh.true

pub returns-then-nv-np : goal.returns-then-nv-np
returns-then-nv-np c =
    let a = c.args in
    counts_fail a.mesh.now.nvp a.mesh.now.vertices.now a.mesh.now.polygons.now a.mesh.now.links.now c.if-nv-np.true

pub overflow_mul-whole-2 : goal.overflow_mul-whole-2
overflow_mul-whole-2 c =
    let a = c.args in
    record { fits = omega (arith, div-mul-le_self (length a.mesh.now.polygons.now) a.mesh.now.nvp) }

pub returns-then-whole-mesh : goal.returns-then-whole-mesh
returns-then-whole-mesh c =
    let a = c.args in
    c.are_in_grid.ensures
    ∙ grid_decides a.mesh.now.nvp a.mesh.now.vertices.now a.mesh.now.polygons.now a.mesh.now.links.now c.if-mesh.false c.if-nv-np.false c.if-whole-mesh.true

pub returns : goal.returns
returns c =
    let a = c.args in
    blocks_fail a.mesh.now.nvp a.mesh.now.vertices.now a.mesh.now.polygons.now a.mesh.now.links.now c.if-whole-mesh.false
