-- `stl::bytes::put_u32` meets its contract: the four bytes that are copied are the definition's. Assumes nothing.
use mathlib.Core.Path.{refl, ◌∙◌}
use Rattle.rules.specs.Stl.{little}
use Rattle.stl.proofs.Parts.{part_put}
use Rattle.stl.proofs.bytes.put_u32.Goals as goal

pub returns : goal.returns
unfolding little
returns c = part_put c.args.out.now c.args.at 4 (little c.args.n) (c.copy_from_slice.ensures.after ∙ c.to_le_bytes.ensures) refl c.requires
