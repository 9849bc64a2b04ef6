-- `lines::scan::is_same_text` meets its contract: equality of slices goes byte by byte, as the rules do. Assumes nothing.
use mathlib.Core.Path.{◌∙◌}
use Rattle.lines.proofs.Scanning.{same_pointwise}
use Rattle.lines.proofs.scan.is_same_text.Goals as goal

pub returns : goal.returns
returns c = c.eq.ensures ∙ same_pointwise c.args.a.now c.args.b.now
