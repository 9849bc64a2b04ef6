-- The header and the answer as numbers. Definitions only.
use Rattle.std.specs.Prelude.{Bool, cond, List, [], ◌∷◌, ℕ, Float, get_or}
use Rattle.std.specs.Float.{nan}
use Rattle.rules.specs.Replies.{Reply, number_of_reply, second_of, third_of}
use Rattle.rules.specs.Units.{size_in}
use Rattle.rules.specs.declared.Point.{Point}
use Rattle.rules.specs.declared.CellSize.{CellSize}
use Rattle.rules.specs.declared.CellSize.TheVariants.{Millimetres, Inches}
use Rattle.rules.specs.declared.Header.{Header}

abbrev pub point_at : ℕ → ℕ → Point
point_at x z = record { x = x; z = z }

-- how many numbers a header has, and an answer
abbrev pub header_length : ℕ
header_length = 9

abbrev pub answer_length : ℕ
answer_length = 4

-- and that of the mender and of the checker
abbrev pub three_length : ℕ
three_length = 3

-- number k of the nine
unfoldable pub number_at : List Float → ℕ → Float
number_at ns k = get_or ns k nan

-- the header that nine numbers are: the box's two corners, the cell size and height, the largest edge error
unfoldable pub header_from : Bool → List Float → Header
header_from inches ns = record {
  aabb = record {
    min = record { x = number_at ns 0; y = number_at ns 1; z = number_at ns 2 };
    max = record { x = number_at ns 3; y = number_at ns 4; z = number_at ns 5 };
  };
  cell_size = size_in inches (number_at ns 6);
  cell_height = number_at ns 7;
  max_edge_error = number_at ns 8;
}

-- the number of a cell size, without its unit
unfoldable pub size_number : CellSize → Float
size_number (Millimetres x) = x
size_number (Inches x) = x

-- the nine numbers of a header
unfoldable pub header_words : Header → List Float
header_words h =
    h.aabb.min.x ∷ h.aabb.min.y ∷ h.aabb.min.z ∷ h.aabb.max.x ∷ h.aabb.max.y ∷ h.aabb.max.z ∷ size_number h.cell_size ∷ h.cell_height ∷
    h.max_edge_error ∷ []

-- the reply's number, its second and its third, and the unit: 0 for millimetres, 1 for inches
unfoldable pub answer_words : Reply → Bool → List ℕ
answer_words r inches = number_of_reply r ∷ second_of r ∷ third_of r ∷ cond inches 1 0 ∷ []
