-- `facettext::rows::put_others` meets its contract: the loop prints the coordinates one behind the other. Assumes nothing.
use mathlib.Core.List.{◌∷◌}
use lib.ListN.{length, get_or}
use Rattle.mem.specs.Packed.{packed}
use Rattle.rules.specs.Lines.{tab_byte}
use Rattle.rules.specs.StlText.{coordinate_text}
use Rattle.lines.specs.Pieces.{Pieces}
use Rattle.facettext.proofs.rows.put_others.Given as goal

abbrev pub invariant-loop-p : goal.invariant-loop-p
invariant-loop-p l =
    Pieces (λ k. tab_byte ∷ coordinate_text (get_or l.ps k 0)) (length l.ps) (packed (λ p. tab_byte ∷ coordinate_text p) l.ps)
    l.initial.out l.at l.out l.to l.p-index
