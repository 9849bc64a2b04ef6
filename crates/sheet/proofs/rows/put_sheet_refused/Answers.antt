-- `sheet::rows::put_sheet_refused` meets its contract: its number and its line are printed. Assumes nothing.
use Rattle.sheet.proofs.rows.put_sheet_refused.Goals as goal

pub put_refused-requires : goal.put_refused-requires
put_refused-requires c = rw (c.number.ensures, c.line.ensures) c.requires

pub returns : goal.returns
returns c = rw (c.number.ensures, c.line.ensures) at c.put_refused.ensures
