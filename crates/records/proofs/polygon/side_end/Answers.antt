use mathlib.Core.Path.{◌∙◌}
use Rattle.records.specs.Polygons.{end_is, on_next}
use borrow.Author.Rules.{rules}
use Rattle.records.proofs.polygon.side_end.Goals as goal

-- src/polygon.rt:102:5
pub corner-requires : goal.corner-requires
corner-requires c = on_next c.args.p (search rules) c.args.i (search rules) _ c.next.ensures

-- src/polygon.rt:98:1
pub returns : goal.returns
returns c = c.corner.ensures ∙ end_is c.args.p (search rules) c.args.i (search rules) _ c.next.ensures
