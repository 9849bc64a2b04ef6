-- The table of examples of request 11, proved by computing: files that are written and read, a row and more for each refusal, and what is printed.
use Rattle.std.specs.Prelude.{◌≡◌, refl, Bool, true, false, cond, List, [], ◌∷◌, ◌++◌, ℕ, ◌+◌, ◌-◌, ◌*◌, leb, replicate}
use Prim.Native.String.{String}
use Rattle.std.specs.Float.{binary32}
use Rattle.std.specs.Float.Ieee.{span, climb, size, odd, units, round, mul, div, of_int, of_fields, of_bits, to_bits}
use Rattle.mem.specs.Tab.{blocks}
use Rattle.mem.specs.Packed.{packed}
use Rattle.rules.specs.Computing.{rules}
use Rattle.rules.specs.Links.{none}
use Rattle.rules.specs.Lines.{ascii, lf}
use Rattle.rules.specs.Handed.{Handed, vertex_count, polygon_count, mesh_in, corner_word, link_word, all_of, any_of, first_fault, blocks_agree, within_limits}
use Rattle.rules.specs.Handed.{are_few, buffers_hold, corners_hold, names_back, link_holds, links_hold, or_fault, soundness, fault_number, fault_second}
use Rattle.rules.specs.Stl.{little, from_little, Scale, size_of, height_of, is_length, is_scale, coordinate, corner_of, point_of, facet_of, fan_of, facets_of}
use Rattle.rules.specs.Stl.{facet_count, facet_bytes, file_of, file_length, count_in, right_length, zero_due, wrong_at, first_wrong, facet_in, facets_in}
use Rattle.rules.specs.Stl.{after_zeros, reading}
use Rattle.rules.specs.StlCall.{mesh_facets, mesh_count, mesh_file, room_reply, stl_reply, stl_left, stl_exit, stl_number, stl_second, stl_words, facet_words}
use Rattle.rules.specs.StlCall.{point_words, unstl_answer, unstl_reply, unstl_left, unstl_exit, unstl_number, unstl_second, unstl_words}
use Rattle.rules.specs.StlCall.{stl_refusal_number, stl_refusal_second, unstl_refusal_number, unstl_refusal_second}
use Rattle.rules.specs.StlText.{scale_of, carved, carved_text, stl_text, is_negative, exponent_of, fraction_of, significand, power_of, ten_thousandths}
use Rattle.rules.specs.StlText.{four_digits, decimals, hex_digit, bits_text, is_shown, sign_text, coordinate_text, facets_name, facet_line, facet_lines}
use Rattle.rules.specs.StlText.{reading_text, facets_text}

-- ---- what an example says

-- the bytes that hex digits say, two a byte
unfoldable pub nibble : ℕ → ℕ
nibble c = cond (leb 97 c) (c - 87) (c - 48)

unfoldable pub pairs : List ℕ → List ℕ
pairs [] = []
pairs (a ∷ []) = []
pairs (a ∷ (b ∷ cs)) = (nibble a * 16 + nibble b) ∷ pairs cs

abbrev hex : String → List ℕ
hex t = pairs (ascii t)

-- a file of this count and of facets by their 36 bytes of points
unfoldable pub file : String → List String → List ℕ
file count facets = replicate 80 0 ++ (hex count ++ packed (λ t. replicate 12 0 ++ (hex t ++ replicate 2 0)) facets)

-- n lent numbers
abbrev lent : ℕ → List ℕ
lent n = replicate n 7

-- lines as a text
unfoldable pub text : List String → List ℕ
text ts = packed (λ t. ascii t ++ (lf ∷ [])) ts

pub data Filing : Type 0 where
  -- a mesh, its scale and so many lent bytes: the reply's number and its second number, and the lent bytes at exit
  writes : Handed → Scale → ℕ → ℕ → ℕ → List ℕ → Filing
  -- a file and so many lent words: the reply's numbers, and the lent words at exit
  reads : List ℕ → ℕ → ℕ → ℕ → List ℕ → Filing
  -- a pattern, and how it is printed
  shows : ℕ → String → Filing
  -- a file, and what is printed for it
  prints : List ℕ → List String → Filing
  -- the lines of a sheet, and what is written for it
  carves : List String → List ℕ → Filing
  -- whether a sheet's unit is inches, and its cell's size and height in thousandths: they are lengths
  measures : Bool → ℕ → ℕ → Filing

unfoldable pub FileHolds : Filing → Type 0
FileHolds (writes m s room n k bytes) = stl_words (stl_reply m s room) ++ stl_exit m s (lent room) ≡ n ∷ k ∷ 0 ∷ bytes
FileHolds (reads bs room n k words) = unstl_words (unstl_reply bs room) ++ unstl_exit bs (lent room) ≡ n ∷ k ∷ 0 ∷ words
FileHolds (shows p t) = coordinate_text p ≡ ascii t
FileHolds (prints bs ts) = facets_text bs ≡ text ts
FileHolds (carves ts bs) = stl_text (text ts) ≡ bs
FileHolds (measures inches size height) = is_scale (scale_of inches size height) ≡ true

infixr 20 ◌&◌
pub data AllFile : List Filing → Type 0 where
  end : AllFile []
  ◌&◌ : {e : Filing} {es : List Filing} → FileHolds e → AllFile es → AllFile (e ∷ es)

-- ---- the table's words

-- a scale of these patterns, in millimetres and in inches
abbrev mm : ℕ → ℕ → Scale
mm size height = record { inches = false; size = of_bits binary32 size; height = of_bits binary32 height }

abbrev inch : ℕ → ℕ → Scale
inch size height = record { inches = true; size = of_bits binary32 size; height = of_bits binary32 height }

-- 1 mm both ways
abbrev one : Scale
one = mm 0x3f80_0000 0x3f80_0000

abbrev mesh : ℕ → List ℕ → List ℕ → List ℕ → Handed
mesh nvp vs ps ls = record { nvp = nvp; vertices = vs; polygons = ps; links = ls }

abbrev empty : Handed
empty = mesh 3 [] [] []

-- a triangle of one vertex, three times
abbrev dot : ℕ → ℕ → ℕ → Handed
dot x y z = mesh 3 (x ∷ y ∷ z ∷ []) (0 ∷ 0 ∷ 0 ∷ []) (replicate 3 none)

-- "Square: (0,0),(0,4),(4,4),(4,0) as x,z.", as one polygon (K3)
abbrev square : Handed
square = mesh 6 (0 ∷ 0 ∷ 0 ∷ 0 ∷ 0 ∷ 4 ∷ 4 ∷ 0 ∷ 4 ∷ 4 ∷ 0 ∷ 0 ∷ []) (0 ∷ 1 ∷ 2 ∷ 3 ∷ none ∷ none ∷ []) (replicate 6 none)

-- five corners and then three, of vertices at x 0 to 4
abbrev row : Handed
row = mesh 5 (0 ∷ 0 ∷ 0 ∷ 1 ∷ 0 ∷ 0 ∷ 2 ∷ 0 ∷ 0 ∷ 3 ∷ 0 ∷ 0 ∷ 4 ∷ 0 ∷ 0 ∷ []) (0 ∷ 1 ∷ 2 ∷ 3 ∷ 4 ∷ 4 ∷ 3 ∷ 1 ∷ none ∷ none ∷ []) (replicate 10 none)

-- the file of a triangle of one vertex with these three patterns
abbrev dot_file : String → List ℕ
dot_file t = file "01000000" (t ∷ [])

-- nothing, and 36 zeros
abbrev none0 : List ℕ
none0 = file "00000000" []

abbrev flat : String
flat = "000000000000000000000000000000000000000000000000000000000000000000000000"

-- a sheet's lines: the square with this unit, this cell and this first vertex
abbrev sheet : String → String → String → List String
sheet unit cell v =
    unit ∷ cell ∷ "nvp\t6" ∷ "grid\t4\t4\t0" ∷ "contour\t1\t7\t4" ∷ v ∷ "v\t0\t0\t4\t0" ∷ "v\t4\t0\t4\t0" ∷ "v\t4\t0\t0\t0" ∷ []

-- ---- the table
abbrev pub filings : List Filing
filings =
    -- "80 zero bytes, the facet count ..": an empty mesh; a byte less is 71, and a byte more stays
    writes empty one 84 0 0 none0 ∷
    writes empty one 83 71 0 (lent 83) ∷
    writes empty one 85 0 0 (none0 ++ lent 1) ∷
    -- K3, cell 0.5 mm, height 0.25 mm: two facets, and two bytes more lent
    writes square (mm 0x3f00_0000 0x3e80_0000) 186 0 2
    (file "02000000" ("000000000000000000000000000000000000000000000040000000400000000000000040" ∷
    "000000000000000000000000000000400000000000000040000000400000000000000000" ∷ []) ++ lent 2) ∷
    -- "a fan from its first corner", polygons in their order: x of the corners is 0 1 2, 0 2 3, 0 3 4, and then 4 3 1
    writes row one 284 0 4
    (file "04000000" ("0000000000000000000000000000803f0000000000000000000000400000000000000000" ∷
    "000000000000000000000000000000400000000000000000000040400000000000000000" ∷
    "000000000000000000000000000040400000000000000000000080400000000000000000" ∷
    "0000804000000000000000000000404000000000000000000000803f0000000000000000" ∷ [])) ∷
    -- "y by cell height": size 1, height 2; y has all its 16 bits
    writes (dot 1 1 3) (mm 0x3f80_0000 0x4000_0000) 134 0 1 (dot_file "0000803f00000040000040400000803f00000040000040400000803f0000004000004040") ∷
    writes (dot 0 65535 0) one 134 0 1 (dot_file "0000000000ff7f47000000000000000000ff7f47000000000000000000ff7f4700000000") ∷
    -- "rounded once; inches are converted first": 3 times (0.001 in), and 0.005 in; the height too
    writes (dot 3 0 0) (inch 0x3a83_126f 0x3f80_0000) 134 0 1 (dot_file "c00e9c3d0000000000000000c00e9c3d0000000000000000c00e9c3d0000000000000000") ∷
    writes (dot 1 0 0) (inch 0x3ba3_d70a 0x3f80_0000) 134 0 1 (dot_file "490c023e0000000000000000490c023e0000000000000000490c023e0000000000000000") ∷
    writes (dot 0 1 0) (inch 0x3f80_0000 0x3f80_0000) 134 0 1 (dot_file "000000003333cb4100000000000000003333cb4100000000000000003333cb4100000000") ∷
    -- a product that is infinite is written, and so is the smallest length
    writes (dot 2 0 0) (mm 0x7f7f_ffff 0x3f80_0000) 134 0 1 (dot_file "0000807f00000000000000000000807f00000000000000000000807f0000000000000000") ∷
    writes (dot 1 0 0) (mm 0x0000_0001 0x3f80_0000) 134 0 1 (dot_file "010000000000000000000000010000000000000000000000010000000000000000000000") ∷
    -- 70: "cell size or height, in millimetres, that isn't finite and above zero": 0, -0, below 0, infinite, NaN; and inches that are infinite in millimetres
    writes empty (mm 0x0000_0000 0x3f80_0000) 84 70 0 (lent 84) ∷
    writes empty (mm 0x3f80_0000 0x0000_0000) 84 70 0 (lent 84) ∷
    writes empty (mm 0x8000_0000 0x3f80_0000) 84 70 0 (lent 84) ∷
    writes empty (mm 0xbf80_0000 0x3f80_0000) 84 70 0 (lent 84) ∷
    writes empty (mm 0x7f80_0000 0x3f80_0000) 84 70 0 (lent 84) ∷
    writes empty (mm 0x3f80_0000 0x7fc0_0000) 84 70 0 (lent 84) ∷
    writes empty (mm 0x7f7f_ffff 0x7f7f_ffff) 84 0 0 none0 ∷
    writes empty (inch 0x7f7f_ffff 0x3f80_0000) 84 70 0 (lent 84) ∷
    writes empty (inch 0x3f80_0000 0x7f7f_ffff) 84 70 0 (lent 84) ∷
    -- 40 to 42 before 70, 70 before 71
    writes empty (mm 0x0000_0000 0x3f80_0000) 0 70 0 [] ∷
    writes (mesh 2 [] [] []) (mm 0x0000_0000 0x3f80_0000) 0 40 0 [] ∷
    writes (mesh 3 (0 ∷ 0 ∷ 0 ∷ []) (0 ∷ 0 ∷ 0 ∷ 0 ∷ 0 ∷ 1 ∷ []) (replicate 6 none)) (mm 0x0000_0000 0x3f80_0000) 0 41 1 [] ∷
    writes (mesh 3 (0 ∷ 0 ∷ 0 ∷ []) (0 ∷ 0 ∷ 0 ∷ []) (0 ∷ none ∷ none ∷ [])) (mm 0x7fc0_0000 0x3f80_0000) 0 42 0 [] ∷
    -- "71 room, exactly when the file needs more bytes than lent"
    writes (dot 0 0 0) one 133 71 0 (lent 133) ∷
    writes (dot 0 0 0) one 134 0 1 (dot_file flat) ∷
    -- what was written is read, and what lies behind the words stays
    reads none0 0 0 0 [] ∷
    reads (dot_file flat) 9 0 1 (replicate 9 0) ∷
    -- any pattern is read: 2, -0, a NaN, another NaN, and five times 0
    reads (dot_file "00000040000000800000c07f010080ff0000000000000000000000000000000000000000") 10 0 1
    (0x4000_0000 ∷ 0x8000_0000 ∷ 0x7fc0_0000 ∷ 0xff80_0001 ∷ 0 ∷ 0 ∷ 0 ∷ 0 ∷ 0 ∷ 7 ∷ []) ∷
    -- 72: "length doesn't fit the count": nothing, a byte too few, one too many, a count of one more, one in big-endian, one whose bytes are 4 in 32 bits
    reads [] 0 72 0 [] ∷
    reads (1 ∷ []) 0 72 0 [] ∷
    reads (replicate 83 0) 0 72 0 [] ∷
    reads (none0 ++ (0 ∷ [])) 0 72 0 [] ∷
    reads (file "01000000" []) 9 72 0 (lent 9) ∷
    reads (file "00000001" (flat ∷ [])) 9 72 0 (lent 9) ∷
    reads (file "52b81e05" [] ++ replicate 4 0) 9 72 0 (lent 9) ∷
    -- 73: "nonzero where zero is due, with the first byte": the header's first and last, a normal of -0, both bytes of the attribute
    reads (32 ∷ replicate 83 0) 0 73 0 [] ∷
    reads (replicate 79 0 ++ (1 ∷ replicate 4 0)) 0 73 79 [] ∷
    reads (file "01000000" [] ++ (0 ∷ 0 ∷ 0 ∷ 128 ∷ replicate 46 0)) 0 73 87 [] ∷
    reads (file "01000000" [] ++ (replicate 48 0 ++ (1 ∷ 0 ∷ []))) 9 73 132 (lent 9) ∷
    reads (file "01000000" [] ++ (replicate 48 0 ++ (0 ∷ 1 ∷ []))) 9 73 133 (lent 9) ∷
    -- the attribute of facet 0 comes before the normal of facet 1, and what stands first in the file counts
    reads (file "02000000" [] ++ (replicate 48 0 ++ (1 ∷ 0 ∷ 1 ∷ replicate 49 0))) 18 73 132 (lent 18) ∷
    reads (file "02000000" (flat ∷ []) ++ (1 ∷ replicate 49 0)) 18 73 134 (lent 18) ∷
    -- 72 before 73, and both before 71
    reads (32 ∷ replicate 84 0) 0 72 0 [] ∷
    reads (dot_file flat) 8 71 0 (lent 8) ∷
    -- a coordinate is printed in millimetres with four decimals, the nearest; what is 2^50 mm and more, infinite or no number, by its bits
    shows 0x0000_0000 "0.0000" ∷
    shows 0x8000_0000 "-0.0000" ∷
    shows 0x3f80_0000 "1.0000" ∷
    shows 0xc120_0000 "-10.0000" ∷
    shows 0x3d9c_0ec0 "0.0762" ∷
    shows 0x41cb_3333 "25.4000" ∷
    shows 0x3851_b717 "0.0000" ∷
    shows 0x3851_b718 "0.0001" ∷
    shows 0x3800_0000 "0.0000" ∷
    shows 0x3d00_0000 "0.0313" ∷
    shows 0x0000_0001 "0.0000" ∷
    shows 0x4b80_0000 "16777216.0000" ∷
    shows 0x587f_ffff "1125899839733760.0000" ∷
    shows 0x5880_0000 "#58800000" ∷
    shows 0x7f80_0000 "#7f800000" ∷
    shows 0xff80_0001 "#ff800001" ∷
    -- `--facets`: the unit, the count, and a line for each facet; or the refusal
    prints none0 ("unit\tmm" ∷ "facets\t0" ∷ []) ∷
    prints (file "02000000" ("000000000000000000000000000000000000000000000040000000400000000000000040" ∷
    "0000000000000000000000000000c07f0000000000000040000030c00000000000000000" ∷ []))
    ("unit\tmm" ∷ "facets\t2" ∷ "0.0000\t0.0000\t0.0000\t0.0000\t0.0000\t2.0000\t2.0000\t0.0000\t2.0000" ∷
    "0.0000\t0.0000\t0.0000\t#7fc00000\t0.0000\t2.0000\t-2.7500\t0.0000\t0.0000" ∷ []) ∷
    prints [] ("refused\t72\t0" ∷ []) ∷
    prints (32 ∷ replicate 83 0) ("refused\t73\t0" ∷ []) ∷
    -- `--stl`: the square in millimetres and in inches; a refusal of the sheet, and one of the build. The least and the greatest cell are lengths
    carves (sheet "unit\tmm" "cell\t500\t250" "v\t0\t0\t0\t0")
    (file "02000000" ("000000000000000000000000000000000000000000000040000000400000000000000040" ∷
    "000000000000000000000000000000400000000000000040000000400000000000000000" ∷ [])) ∷
    carves (sheet "unit\tin" "cell\t1000\t1000" "v\t0\t0\t0\t0")
    (file "02000000" ("00000000000000000000000000000000000000003333cb423333cb42000000003333cb42" ∷
    "0000000000000000000000003333cb42000000003333cb423333cb420000000000000000" ∷ [])) ∷
    carves (sheet "unit\tcm" "cell\t500\t250" "v\t0\t0\t0\t0") (text ("refused\t21\t1" ∷ [])) ∷
    carves (sheet "unit\tmm" "cell\t500\t250" "v\t32768\t0\t0\t0") (text ("refused\t3\t0" ∷ [])) ∷
    measures false 1 16777216 ∷
    measures true 16777216 1 ∷
    []

-- each row holds
pub all_filings : AllFile filings
unfolding rules FileHolds span climb size odd units round mul div of_int of_fields of_bits to_bits blocks nibble pairs file text vertex_count polygon_count mesh_in corner_word link_word all_of any_of first_fault blocks_agree within_limits are_few buffers_hold corners_hold names_back link_holds links_hold or_fault soundness fault_number fault_second little from_little size_of height_of is_length is_scale coordinate corner_of point_of facet_of fan_of facets_of facet_count facet_bytes file_of file_length count_in right_length zero_due wrong_at first_wrong facet_in facets_in after_zeros reading mesh_facets mesh_count mesh_file room_reply stl_reply stl_left stl_exit stl_refusal_number stl_refusal_second stl_number stl_second stl_words facet_words point_words unstl_answer unstl_reply unstl_left unstl_exit unstl_refusal_number unstl_refusal_second unstl_number unstl_second unstl_words scale_of carved carved_text stl_text is_negative exponent_of fraction_of significand power_of ten_thousandths four_digits decimals hex_digit bits_text is_shown sign_text coordinate_text facets_name facet_line facet_lines reading_text facets_text
all_filings =
    refl & refl & refl & refl & refl & refl & refl & refl & refl & refl & refl & refl & refl & refl & refl & refl & refl & refl & refl & refl &
    refl & refl & refl & refl & refl & refl & refl & refl & refl & refl & refl & refl & refl & refl & refl & refl & refl & refl & refl & refl &
    refl & refl & refl & refl & refl & refl & refl & refl & refl & refl & refl & refl & refl & refl & refl & refl & refl & refl & refl & refl &
    refl & refl & refl & refl & refl & refl & refl & refl & refl & refl & refl & refl & end
