-- `stl::points::put_f32` meets its contract: what is stored is the pattern. Assumes nothing.

use Rattle.stl.proofs.points.put_f32.Goals as goal

pub returns : goal.returns
returns c = rw (← c.pattern-p.ensures) c.put_u32.ensures
