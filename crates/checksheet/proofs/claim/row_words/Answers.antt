-- `checksheet::claim::row_words` meets its contract. Assumes nothing.
use Rattle.checksheet.proofs.MeshesRead.{words_all, words_most}
use Rattle.checksheet.proofs.claim.row_words.Goals as goal

pub returns-then-nvp-le12 : goal.returns-then-nvp-le12
returns-then-nvp-le12 c = words_all c.args.nvp c.if-nvp-le12.true

pub returns : goal.returns
returns c = words_most c.args.nvp c.if-nvp-le12.false
