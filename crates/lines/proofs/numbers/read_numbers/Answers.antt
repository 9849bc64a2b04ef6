-- `lines::numbers::read_numbers` meets its contract: the numbers of a line that is good take the place of the first zeros. Assumes nothing.
use mathlib.Core.Path.{refl}
use native.Mathlib.Omega.{arith}
use Rattle.lines.proofs.Numbering.{said_widened, unsaid_widened, both_said}
use Rattle.lines.proofs.numbers.read_numbers.Goals as goal

pub read_row-requires : goal.read_row-requires
read_row-requires g c = omega (arith, c.requires)

pub returns-then-read_row : goal.returns-then-read_row
returns-then-read_row g c =
    let e = said_widened c.read_row.ensures _ refl c.requires c.if-read_row.true in
    record { read = e; whole = λ h. both_said _ _ _ _ _ e h }

pub returns : goal.returns
returns g c =
    let e = unsaid_widened c.read_row.ensures _ refl c.requires c.if-read_row.false in
    record { read = e; whole = λ h. both_said _ _ _ _ _ e h }
