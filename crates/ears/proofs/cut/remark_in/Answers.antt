-- `ears::cut::remark_in` meets its contract: the one word that is set lies among the index words. Assumes nothing.
use Rattle.ears.proofs.Parts.{marked}
use Rattle.ears.proofs.cut.remark_in.Goals as goal

pub returns : goal.returns
returns c =
    marked _ _ _ _ _ _ c.requires.0.room c.requires.3 c.diagonal_in-on.ensures c.with_mark.ensures
