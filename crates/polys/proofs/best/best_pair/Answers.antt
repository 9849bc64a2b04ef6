use borrow.Author.Rules.{rules}
use Rattle.mem.specs.Loops.{doing_more, doing_end}
use Rattle.records.specs.Polygons.{length_polygons}
use Rattle.polys.proofs.Greatest.{pairs_begin}
use Rattle.polys.proofs.best.best_pair.Goals as goal

pub loop-a-init : goal.loop-a-init
loop-a-init c = pairs_begin _ c.args.f.nvp _ _ (length_polygons _ _ _) c.no_pair-m.ensures

pub loop-a-preserved : goal.loop-a-preserved
loop-a-preserved c = doing_more c.loop-a.invariant (search rules) c.best_of_row-m.ensures

pub returns : goal.returns
returns c = doing_end c.loop-a.invariant (search rules)
