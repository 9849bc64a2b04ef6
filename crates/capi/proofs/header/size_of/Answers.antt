-- `capi::header::size_of` meets its contract: each arm is the definition with its variant known. Assumes nothing.
use mathlib.Core.Path.{refl}
use Rattle.capi.specs.Numbers.{size_number}
use Rattle.capi.proofs.header.size_of.Goals as goal

pub returns-in-Millimetres : goal.returns-in-Millimetres
unfolding size_number
returns-in-Millimetres c = rw c.in-Millimetres.is refl

pub returns-in-Inches : goal.returns-in-Inches
unfolding size_number
returns-in-Inches c = rw c.in-Inches.is refl
