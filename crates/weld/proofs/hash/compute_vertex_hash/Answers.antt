-- `weld::hash::compute_vertex_hash` meets its contract: the products and their sum are those of the definition. Assumes nothing.
use Rattle.std.proofs.Common.{refl}
use Rattle.weld.proofs.Walks.{hash_made}
use Rattle.weld.proofs.hash.compute_vertex_hash.Goals as goal

pub returns : goal.returns
returns c = rw (c.from-a.ensures, c.from-b.ensures) (hash_made c.args.x c.args.z refl refl refl)
