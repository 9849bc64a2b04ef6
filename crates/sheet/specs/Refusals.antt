-- The refusals of a sheet, as the rules number them. Definitions only.
use Rattle.std.specs.Prelude.{ℕ}
use Rattle.rules.specs.Sheet.{Read, bad}
use Rattle.sheet.specs.declared.refusal.SheetRefusal.{SheetRefusal}
use Rattle.sheet.specs.declared.refusal.SheetRefusal.TheVariants.{NoUnit, Malformed, TooLong, TooMany}

-- its number
unfoldable pub number_of : SheetRefusal → ℕ
number_of NoUnit = 21
number_of (Malformed k) = 22
number_of TooLong = 23
number_of (TooMany k) = 24

-- its line
unfoldable pub line_of : SheetRefusal → ℕ
line_of NoUnit = 1
line_of (Malformed k) = k
line_of TooLong = 0
line_of (TooMany k) = k

-- what a sheet comes to that is refused so
unfoldable pub refused_as : {A : Type 0} → SheetRefusal → Read A
refused_as r = bad (number_of r) (line_of r)
