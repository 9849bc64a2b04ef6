-- The header of a sheet, field by field. Assumes nothing.
use mathlib.Core.Path.{◌≡◌}
use mathlib.Core.Bool.{Bool}
use Prim.Native.Nat.{ℕ}
use lib.Ieee.{Float}
use Rattle.rules.specs.Units.{size_in, thousandths, zero_float, no_place, header_of}
use Rattle.rules.specs.declared.CellSize.{CellSize}
use Rattle.rules.specs.declared.Header.{Header}

pub header_is : (inches : Bool) (size height : ℕ) {s : CellSize} {x : Float} → s ≡ size_in inches (thousandths size) → x ≡ thousandths height
    → ◌≡◌ {A = Header} (record { aabb = record { min = no_place; max = no_place }; cell_size = s; cell_height = x; max_edge_error = zero_float })
    (header_of inches size height)
unfolding header_of
header_is inches size height e q = rw (e, q)
