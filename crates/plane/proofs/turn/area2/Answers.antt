-- `plane::turn::area2` meets its contract: no step overflows, since a difference of coordinates is within 32767, and a product of two within 32767².
-- Assumes nothing.
use Rattle.plane.proofs.Sizes.{D-reads}
use Rattle.plane.proofs.turn.area2.Goals as goal

pub returns : goal.returns
returns c =
    let (a, b, d) = c.requires in
    simp (c.from-ax.ensures, c.from-az.ensures, c.from-bx.ensures, c.from-bz.ensures, c.from-cx.ensures, c.from-cz.ensures) (D-reads a b d).reads
