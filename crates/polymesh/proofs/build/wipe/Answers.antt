-- `polymesh::build::wipe` meets its contract: a filling of all words. Assumes nothing.
use mathlib.Core.Path.{◌∙◌}
use Prim.Native.Nat.{ℕ}
use lib.ListN.{length, replicate, length-replicate}
use Rattle.mem.specs.Slice.{splice_whole}
use Rattle.polymesh.proofs.build.wipe.Goals as goal

pub returns : goal.returns
returns c = let w = c.args.work.now in c.fill.ensures ∙ splice_whole w (replicate (length w) 0) (length-replicate {A = ℕ} (length w) 0)
