use mathlib.Core.Path.{refl, ap, ◌∙◌}
use Rattle.mem.specs.Slice.{splice}
use Rattle.mem.specs.Tab.{filled_none, filled_more, filled_all}
use Rattle.laws.proofs.StlWords.{facet_in_lem}
use Rattle.stl.proofs.facets.get_facet.Goals as goal

pub loop-i-init : goal.loop-i-init
loop-i-init c = filled_none _ _ _ _

pub loop-i-preserved : goal.loop-i-preserved
loop-i-preserved c = filled_more c.loop-i.invariant _ _ refl c.get_u32.ensures c.loop-i-test.true

pub returns : goal.returns
returns c =
    filled_all c.loop-i.invariant c.loop-i-test.false ∙ ap (splice c.args.words.now c.args.to) (facet_in_lem c.args.file.now c.args.at)
