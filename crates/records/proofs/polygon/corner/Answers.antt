use Rattle.records.specs.Polygons.{corner_is}
use borrow.Author.Rules.{rules}
use Rattle.records.proofs.polygon.corner.Goals as goal

-- src/polygon.rt:90:1
pub returns : goal.returns
returns c = corner_is _ (search rules) _ (search rules)
