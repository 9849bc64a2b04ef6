use mathlib.Core.List.{◌∷◌}
use Rattle.rules.specs.Lines.{tab_byte}
use Rattle.rules.specs.StlText.{coordinate_text}
use Rattle.lines.specs.Pieces.{pieces_none, pieces_room, pieces_more, pieces_all, packed_over}
use Rattle.facettext.proofs.rows.put_others.Goals as goal

pub loop-p-init : goal.loop-p-init
loop-p-init c =
    pieces_none _ _ (packed_over (λ p. tab_byte ∷ coordinate_text p) 0 c.args.ps.now) c.requires

pub put_next-to-requires : goal.put_next-to-requires
put_next-to-requires c = pieces_room c.loop-p.invariant c.loop-p-test.true

pub loop-p-preserved : goal.loop-p-preserved
loop-p-preserved c =
    pieces_more c.loop-p.invariant c.loop-p-test.true c.put_next-to.ensures

pub returns : goal.returns
returns c = pieces_all c.loop-p.invariant c.loop-p-test.false
