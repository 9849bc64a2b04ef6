-- Request 11 at the terminal: the STL of a job sheet, and a file's facets as a text, each a function of the bytes that are read. Definitions, and two
-- statements.
use Rattle.std.specs.Prelude.{◌≡◌, Bool, true, false, cond, List, [], ◌∷◌, ◌++◌, ℕ, ◌+◌, ◌-◌, ◌*◌, ◌/◌, ◌%◌, ◌^◌, ◌≤◌, eqb, leb, ltb, length, drop, get_or, Ok}
use Rattle.mem.specs.Loops.{over}
use Rattle.mem.specs.Tab.{tab}
use Rattle.mem.specs.Packed.{packed}
use Rattle.rules.specs.Lines.{ascii, tab_byte, lf, decimal, number_line}
use Rattle.rules.specs.Mesh.{Mesh}
use Rattle.rules.specs.Removal.{Removal}
use Rattle.rules.specs.Job.{Job}
use Rattle.rules.specs.Checks.{Lent}
use Rattle.rules.specs.Replies.{refusal_number, refusal_second}
use Rattle.rules.specs.Build.{Outcome, refused, built, outcome}
use Rattle.rules.specs.Exits.{exits}
use Rattle.rules.specs.Handed.{soundness}
use Rattle.rules.specs.Checker.{handed_on}
use Rattle.rules.specs.Units.{thousandths}
use Rattle.rules.specs.Sheet.{Sheet, bytes_most, cell_least, cell_most, read_sheet, outcome_of, refused_text, unit_line, text_by}
use Rattle.rules.specs.Stl.{Scale, size_of, height_of, is_scale, facets_of, facet_count, file_of, Reading, wrong_length, not_zero, facets_read, reading, no_facet}
use Rattle.rules.specs.StlCall.{mesh_count, mesh_file}

-- ---- `./mesh --stl`: the file of a sheet's mesh

-- the scale of a cell in thousandths of its unit, as a sheet has it
unfoldable pub scale_of : Bool → ℕ → ℕ → Scale
scale_of inches size height = record { inches = inches; size = thousandths size; height = thousandths height }

-- the file of a mesh
unfoldable pub carved : Scale → Mesh → List ℕ
carved s m = file_of (facets_of (size_of s) (height_of s) m.vertices m.polygons)

-- the file, or the refusal's line. 40 to 42 don't come from a build, nor 70 from a sheet's cells (`BuiltIsCarved`, `CellsAreLengths`), and there is room
unfoldable pub carved_text : Sheet → Outcome → List ℕ
carved_text s (refused r) = refused_text (refusal_number r) (refusal_second r)
carved_text s (built m links log) =
    let scale = scale_of s.inches s.size s.height in
    elim (is_scale scale) [
      | true ↦ carved scale m
      | false ↦ refused_text 70 0
    ]

unfoldable pub stl_text : List ℕ → List ℕ
stl_text bytes = text_by read_sheet (λ s. carved_text s (outcome_of s.job)) bytes

-- Proved in crate `laws`: a sheet's cells, "1 to 16,777,216 thousandths", are lengths in either unit
abbrev pub CellsAreLengths : Type 0
CellsAreLengths = (inches : Bool) (size height : ℕ) → cell_least ≤ size → size ≤ cell_most → cell_least ≤ height → height ≤ cell_most
    → is_scale (scale_of inches size height) ≡ true

-- .. and a mesh that is built, handed on as it lies in the lent buffers, is sound, has the mesh's facets, and is written as the mesh's file
abbrev pub BuiltIsCarved : Type 0
BuiltIsCarved = (j : Job) (b : Lent) (m : Mesh) (ls : List (List ℕ)) (log : List Removal) (s : Scale) → outcome j b ≡ built m ls log
    → let h = handed_on j.nvp (exits j b) (length m.polygons) (length m.vertices) in
    (soundness h ≡ (Ok tt)) × (mesh_count h ≡ facet_count m.polygons) × (mesh_file h s ≡ carved s m)

-- ---- a coordinate as it is printed: millimetres with four decimals

-- the parts of a pattern: whether it is below zero, its exponent, and the fraction behind it
unfoldable pub is_negative : ℕ → Bool
is_negative p = leb 2147483648 p

unfoldable pub exponent_of : ℕ → ℕ
exponent_of p = p / 8388608 % 256

unfoldable pub fraction_of : ℕ → ℕ
fraction_of p = p % 8388608

-- what a pattern stands for, but for its sign, is `significand p` times 2 to the `power_of p`, over 2 to the 150
unfoldable pub significand : ℕ → ℕ
significand p = cond (eqb (exponent_of p) 0) (fraction_of p) (8388608 + fraction_of p)

unfoldable pub power_of : ℕ → ℕ
power_of p = cond (eqb (exponent_of p) 0) 1 (exponent_of p)

-- in ten-thousandths, the nearest, and of two the greater
unfoldable pub ten_thousandths : ℕ → ℕ
ten_thousandths p = (significand p * 10000 * 2 ^ power_of p + 2 ^ 149) / 2 ^ 150

-- four digits, and a number of ten-thousandths
unfoldable pub four_digits : ℕ → List ℕ
four_digits n = (48 + n / 1000) ∷ (48 + n / 100 % 10) ∷ (48 + n / 10 % 10) ∷ (48 + n % 10) ∷ []

unfoldable pub decimals : ℕ → List ℕ
decimals n = decimal (n / 10000) ++ (ascii "." ++ four_digits (n % 10000))

-- a pattern by its bits: `#` and eight hex digits, the highest first
unfoldable pub hex_digit : ℕ → ℕ
hex_digit d = cond (ltb d 10) (48 + d) (87 + d)

unfoldable pub bits_text : ℕ → List ℕ
bits_text p = ascii "#" ++ tab (λ k. hex_digit (p / 16 ^ (7 - k) % 16)) 8

-- a length of under 2^50 mm is printed as a number; what is longer, infinite or no number, by its bits
unfoldable pub is_shown : ℕ → Bool
is_shown p = ltb (exponent_of p) 177

unfoldable pub sign_text : ℕ → List ℕ
sign_text p = cond (is_negative p) (ascii "-") []

unfoldable pub coordinate_text : ℕ → List ℕ
coordinate_text p = cond (is_shown p) (sign_text p ++ decimals (ten_thousandths p)) (bits_text p)

-- ---- `./mesh --facets`: "`facets→N`, then three points a line, in millimetres"

unfoldable pub facets_name : List ℕ
facets_name = ascii "facets"

-- nine coordinates, parted by tabs
unfoldable pub facet_line : List ℕ → List ℕ
facet_line f = coordinate_text (get_or f 0 0) ++ (packed (λ p. tab_byte ∷ coordinate_text p) (drop 1 f) ++ (lf ∷ []))

unfoldable pub facet_lines : List (List ℕ) → List ℕ
facet_lines fs = over [] ◌++◌ (λ k. facet_line (get_or fs k no_facet)) 0 (length fs)

unfoldable pub reading_text : Reading → List ℕ
reading_text wrong_length = refused_text 72 0
reading_text (not_zero i) = refused_text 73 i
reading_text (facets_read fs) = unit_line false ++ (number_line facets_name (length fs ∷ []) ++ facet_lines fs)

-- "23 over 65,536 bytes", as for a sheet
unfoldable pub facets_text : List ℕ → List ℕ
facets_text bytes = cond (ltb bytes_most (length bytes)) (refused_text 23 0) (reading_text (reading bytes))
