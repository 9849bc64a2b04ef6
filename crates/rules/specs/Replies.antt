-- The replies: their numbers, their second and third numbers, and which write nothing. Definitions only.
use Rattle.std.specs.Prelude.{Bool, true, false, ℕ, Result, Ok, Err}
use Rattle.rules.specs.declared.Refusal.{Refusal}
use Rattle.rules.specs.declared.Refusal.TheVariants.{BadCornerLimit, CountsDisagree, HighCoordinate, BadFlag, TooManyVertices, ShortBuffer, NoEarInContour, NoEarInHole}
use Rattle.rules.specs.declared.Built.{Built}

-- the table's "No."
unfoldable pub refusal_number : Refusal → ℕ
refusal_number (BadCornerLimit n) = 1
refusal_number CountsDisagree = 2
refusal_number (HighCoordinate k) = 3
refusal_number (BadFlag k) = 4
refusal_number (TooManyVertices n) = 5
refusal_number (ShortBuffer k) = 6
refusal_number (NoEarInContour c) = 7
refusal_number (NoEarInHole i) = 8

-- the table's "Second number"
unfoldable pub refusal_second : Refusal → ℕ
refusal_second (BadCornerLimit n) = n
refusal_second CountsDisagree = 0
refusal_second (HighCoordinate k) = k
refusal_second (BadFlag k) = k
refusal_second (TooManyVertices n) = n
refusal_second (ShortBuffer k) = k
refusal_second (NoEarInContour c) = c
refusal_second (NoEarInHole i) = i

-- "Replies 1 to 6 write nothing."
unfoldable pub writes_nothing : Refusal → Bool
writes_nothing (BadCornerLimit n) = true
writes_nothing CountsDisagree = true
writes_nothing (HighCoordinate k) = true
writes_nothing (BadFlag k) = true
writes_nothing (TooManyVertices n) = true
writes_nothing (ShortBuffer k) = true
writes_nothing (NoEarInContour c) = false
writes_nothing (NoEarInHole i) = false

-- reply 0 with its counts, or a refusal
abbrev pub Reply : Type 0
Reply = Result Built Refusal

-- the counts of n polygons and k vertices
abbrev pub as_built : ℕ → ℕ → Built
as_built n k = record { polygons = n; vertices = k }

-- a reply's three numbers: 0 with the "polygon count (and, only here, a third number: the vertex count; otherwise 0)"
unfoldable pub number_of_reply : Reply → ℕ
number_of_reply (Ok b) = 0
number_of_reply (Err r) = refusal_number r

unfoldable pub second_of : Reply → ℕ
second_of (Ok b) = b.polygons
second_of (Err r) = refusal_second r

unfoldable pub third_of : Reply → ℕ
third_of (Ok b) = b.vertices
third_of (Err r) = 0
