-- `stl::zeros::zero_due` meets its contract: each way out is one part of a file. Assumes nothing.
use Rattle.laws.proofs.StlWords.{due_header, due_count, due_normal, due_attribute}
use Rattle.stl.proofs.zeros.zero_due.Goals as goal

pub returns-then-i-lt80 : goal.returns-then-i-lt80
returns-then-i-lt80 c = due_header c.args.i c.if-i-lt80.true

pub returns-then-i-lt84 : goal.returns-then-i-lt84
returns-then-i-lt84 c = due_count c.args.i c.if-i-lt80.false c.if-i-lt84.true

pub returns-then-k-lt12 : goal.returns-then-k-lt12
returns-then-k-lt12 c = due_normal c.args.i c.if-i-lt84.false c.if-k-lt12.true

pub returns : goal.returns
returns c = due_attribute c.args.i c.if-i-lt84.false c.if-k-lt12.false
