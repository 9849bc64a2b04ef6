-- The cell size and its unit, and the header of a job sheet's mesh. The header itself is `Header` of src/lib.rt, and its cell height has the cell size's unit.
-- Definitions only.
use Rattle.std.specs.Prelude.{Bool, true, false, ℕ, pos, Float}
use Rattle.std.specs.Float.Ieee as Ieee
use Rattle.std.specs.Float.{binary32}
use Rattle.rules.specs.declared.CellSize.{CellSize}
use Rattle.rules.specs.declared.CellSize.TheVariants.{Millimetres, Inches}
use Rattle.rules.specs.declared.Vec3.{Vec3}
use Rattle.rules.specs.declared.Header.{Header}

-- "The cell size is a float tagged as millimetres or as inches"
unfoldable pub size_in : Bool → Float → CellSize
size_in true x = Inches x
size_in false x = Millimetres x

-- "f32 25.4", which is 0x41cb3333
unfoldable pub per_inch : Float
per_inch = Ieee.of_bits binary32 0x41cb_3333

-- "in millimetres it is itself, or the inch number times f32 25.4, rounded once"
unfoldable pub millimetres : CellSize → Float
millimetres (Millimetres x) = x
millimetres (Inches x) = Ieee.mul binary32 x per_inch

-- of the job sheet: "thousandths, divided by 1000 with one rounding" (they are at most 16,777,216, which f32 holds exactly)
unfoldable pub thousandths : ℕ → Float
thousandths n = Ieee.div binary32 (Ieee.of_int binary32 (pos n)) (Ieee.of_int binary32 (pos 1000))

-- of the job sheet: "Box and edge error are zero."
unfoldable pub zero_float : Float
zero_float = Ieee.of_bits binary32 0

unfoldable pub no_place : Vec3
no_place = record { x = zero_float; y = zero_float; z = zero_float }

unfoldable pub header_of : Bool → ℕ → ℕ → Header
header_of inches size height = record {
  aabb = record { min = no_place; max = no_place };
  cell_size = size_in inches (thousandths size);
  cell_height = thousandths height;
  max_edge_error = zero_float;
}
