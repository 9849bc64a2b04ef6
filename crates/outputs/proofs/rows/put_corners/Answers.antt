use mathlib.Core.Path.{◌≡◌, refl, ap, ◌∙◌}
use native.Mathlib.Omega.{arith}
use lib.ListN.{length}
use Rattle.mem.specs.Slice.{splice}
use Rattle.mem.specs.Tab.{filled_none, filled_more, filled_all, tab_take}
use Rattle.records.specs.Layout.{most_corners}
use Rattle.outputs.proofs.Words.{corners_row}
use borrow.Author.Rules.{rules}
use Rattle.outputs.proofs.rows.put_corners.Goals as goal

pub loop-k-init : goal.loop-k-init
loop-k-init c = filled_none _ _ _ _

pub loop-k-preserved : goal.loop-k-preserved
loop-k-preserved c = filled_more c.loop-k.invariant _ _ (omega arith) refl (omega arith)

pub returns : goal.returns
returns c =
    let long_p : length c.args.p.corners ≡ most_corners = search rules in
    filled_all c.loop-k.invariant (omega arith)
    ∙ ap (splice c.args.out.now c.args.to) (tab_take c.args.p.corners c.args.n 0 (omega (arith, long_p, c.requires.most)) ∙ corners_row c.requires (long_p))
