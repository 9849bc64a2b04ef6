use Prim.Native.Nat.{ℕ, ◌+◌, ◌*◌, ◌≤◌, ◌<◌}
use native.Mathlib.Omega.{arith}
use lib.ListN.{length, get_or}
use Rattle.rules.specs.Checks.{vertex_stride}
use Rattle.stl.proofs.Fanning.{fan_none, corner_there, fan_room, fan_more, fan_all}
use Rattle.stl.proofs.fans.put_fan.Goals as goal

pub vertex_at-first-requires : goal.vertex_at-first-requires
vertex_at-first-requires c = corner_there _ _ _ _ c.requires 0 (omega (arith, c.requires.long))

pub loop-k-init : goal.loop-k-init
loop-k-init c = fan_none _ _ _ _ c.requires

pub vertex_at-b-requires : goal.vertex_at-b-requires
vertex_at-b-requires c =
    let there : (k : ℕ) → k < length c.args.corners.now → get_or c.args.corners.now k 0 * vertex_stride + 2 < length c.args.vertices.now =
    λ k h. corner_there _ _ _ _ c.requires k h in
    there _ (omega (arith, c.loop-k-test.true))

pub vertex_at-c-requires : goal.vertex_at-c-requires
vertex_at-c-requires c =
    let there : (k : ℕ) → k < length c.args.corners.now → get_or c.args.corners.now k 0 * vertex_stride + 2 < length c.args.vertices.now =
    λ k h. corner_there _ _ _ _ c.requires k h in
    there _ c.loop-k-test.true

pub put_facet-requires : goal.put_facet-requires
put_facet-requires c =
    let room : c.loop-k.to + 50 ≤ length c.loop-k.out = fan_room _ _ _ _ c.requires c.loop-k.invariant c.loop-k-test.true in
    record { t = c.requires.size_length; t_2 = c.requires.height_length; at_in_bounds = room }

pub overflow_add-to : goal.overflow_add-to
overflow_add-to c =
    let room : c.loop-k.to + 50 ≤ length c.loop-k.out = fan_room _ _ _ _ c.requires c.loop-k.invariant c.loop-k-test.true in
    omega (arith, room)

pub loop-k-preserved : goal.loop-k-preserved
loop-k-preserved c =
    fan_more _ _ _ _ c.requires c.loop-k.invariant c.loop-k-test.true c.vertex_at-first.ensures
    c.vertex_at-b.ensures c.vertex_at-c.ensures c.put_facet.ensures

pub returns : goal.returns
returns c = fan_all _ _ _ _ c.requires c.loop-k.invariant c.loop-k-test.false
