use Rattle.std.proofs.Common.{refl, arith, length-set}
use Rattle.weld.proofs.Puts.{put_steps}
use Rattle.weld.proofs.add.put_vertex.Goals as goal

-- src/add.rt:25:5
pub store_vertex-requires : goal.store_vertex-requires
store_vertex-requires c = simp length-set (omega arith)

-- src/add.rt:26:5
pub bounds-work-t : goal.bounds-work-t
bounds-work-t c = omega (arith, simp length-set at c.store_vertex.auto.work)

-- src/add.rt:18:1
pub shape_of-work : goal.shape_of-work
shape_of-work c = simp length-set (simp length-set at c.store_vertex.auto.work)

-- src/add.rt:18:1
pub returns : goal.returns
returns c =
    put_steps c.args.work.now c.args.t c.args.nv c.requires.0 c.args.v c.requires.1 c.compute_vertex_hash.ensures.0 refl c.store_vertex.ensures
