-- `sheet::rows::put_unit_name` meets its contract: one of two names, by the flag. Assumes nothing.
use Rattle.rules.specs.Lines.{ascii}
use Rattle.rules.specs.Sheet.{in_name, mm_name}
use Rattle.lines.specs.Printing.{printed_same_length}
use Rattle.sheet.proofs.rows.put_unit_name.Goals as goal

pub put_text-requires : goal.put_text-requires
unfolding in_name ascii
put_text-requires c = rw c.if-inches.true at c.requires

pub shape_of-out-then-inches : goal.shape_of-out-then-inches
shape_of-out-then-inches c = printed_same_length c.put_text.ensures

pub returns-then-inches : goal.returns-then-inches
unfolding in_name ascii
returns-then-inches c = rw c.if-inches.true c.put_text.ensures

pub put_text-requires-2 : goal.put_text-requires-2
unfolding mm_name ascii
put_text-requires-2 c = rw c.if-inches.false at c.requires

pub shape_of-out : goal.shape_of-out
shape_of-out c = printed_same_length c.put_text-2.ensures

pub returns : goal.returns
unfolding mm_name ascii
returns c = rw c.if-inches.false c.put_text-2.ensures
