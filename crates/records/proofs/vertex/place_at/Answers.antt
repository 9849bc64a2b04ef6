use mathlib.Core.Path.{refl}
use native.Mathlib.Omega.{arith}
use Rattle.records.specs.Vertices.{grid_x, grid_z, place_made}
use borrow.Author.Rules.{rules}
use Rattle.records.proofs.vertex.place_at.Goals as goal

-- src/vertex.rt:36:12
pub overflow_cast-result : goal.overflow_cast-result
overflow_cast-result c = record { fits = omega (arith, grid_x c.args.work.now c.args.vertices.at c.args.vertices.n c.args.k (search rules) c.requires.0) }

-- src/vertex.rt:37:12
pub overflow_cast-result-2 : goal.overflow_cast-result-2
overflow_cast-result-2 c = record { fits = omega (arith, grid_z c.args.work.now c.args.vertices.at c.args.vertices.n c.args.k (search rules) c.requires.0) }

-- src/vertex.rt:30:1
pub returns : goal.returns
returns c = place_made c.args.work.now c.args.vertices.at c.args.vertices.n c.args.k (search rules) c.requires.0 refl refl
