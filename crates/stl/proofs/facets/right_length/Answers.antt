-- `stl::facets::right_length` meets its contract: a short file has no count, and of any other the count decides. Assumes nothing.
use Rattle.rules.specs.Stl.{count_in}
use Rattle.laws.proofs.StlWords.{short_is_wrong, long_is_right}
use Rattle.stl.proofs.facets.right_length.Goals as goal

pub returns-then-file-lt-FRONT_BYTES : goal.returns-then-file-lt-FRONT_BYTES
returns-then-file-lt-FRONT_BYTES c = short_is_wrong c.args.file.now c.if-file-lt-FRONT_BYTES.true

pub returns : goal.returns
unfolding count_in
returns c = rw c.get_u32-n.ensures (long_is_right c.args.file.now c.if-file-lt-FRONT_BYTES.false)
