-- Request 11, binary STL: the file as a list of bytes, a function of the mesh and its scale; and what is read from a list of bytes. Bytes and facets count
-- from 0. Definitions; at the end what is proved of them, in crate `laws`.
use Rattle.std.specs.Prelude.{◌≡◌, Bool, false, not, ◌&&◌, ◌||◌, cond, List, [], ◌∷◌, ◌++◌, ℕ, ◌+◌, ◌-◌, ◌*◌, ◌/◌, ◌%◌, ◌≤◌, ◌<◌, pos, leb, ltb, eqb, length, get_or, replicate, Float, Option, Some, None}
use Rattle.std.specs.Float.Ieee as Ieee
use Rattle.std.specs.Float.{nan, inf, fin, binary32}
use Rattle.mem.specs.Slice.{view}
use Rattle.mem.specs.Loops.{over}
use Rattle.mem.specs.Tab.{tab, blocks}
use Rattle.mem.specs.Packed.{packed}
use Rattle.rules.specs.Lists.{when, or_else}
use Rattle.rules.specs.Weld.{no_vertex}
use Rattle.rules.specs.Mesh.{Polygon, polygon_at}
use Rattle.rules.specs.Units.{size_in, millimetres}
use Rattle.rules.specs.declared.Vertex.{Vertex}

-- ---- numbers in bytes

-- "32 bits little-endian"
unfoldable pub little : ℕ → List ℕ
little n = n % 256 ∷ n / 256 % 256 ∷ n / 65536 % 256 ∷ n / 16777216 % 256 ∷ []

-- the number that four bytes stand for
unfoldable pub from_little : List ℕ → ℕ
from_little bs = get_or bs 0 0 + 256 * get_or bs 1 0 + 65536 * get_or bs 2 0 + 16777216 * get_or bs 3 0

-- ---- the scale: what a cell is in millimetres

-- a cell's size and its height, with their unit
pub record Scale : Type 0 where
  pub inches : Bool
  pub size : Float
  pub height : Float

-- "the cell size in millimetres (y by cell height) ..; inches are converted first": each by itself, as document 01 converts a cell size
unfoldable pub size_of : Scale → Float
size_of s = millimetres (size_in s.inches s.size)

unfoldable pub height_of : Scale → Float
height_of s = millimetres (size_in s.inches s.height)

-- "finite and above zero"
unfoldable pub is_length : Float → Bool
is_length nan = false
is_length (inf s) = false
is_length (fin s m e) = not s && ltb 0 m

-- 70 if not: "cell size or height, in millimetres, that isn't finite and above zero"
unfoldable pub is_scale : Scale → Bool
is_scale s = is_length (size_of s) && is_length (height_of s)

-- "A coordinate is the whole number times the cell size in millimetres, .. rounded once": the pattern of that float, its 32 bits
unfoldable pub coordinate : Float → ℕ → ℕ
coordinate mm n = Ieee.to_bits binary32 (Ieee.mul binary32 (Ieee.of_int binary32 (pos n)) mm)

-- ---- facets: a facet is the nine patterns of its three points

-- corner k of a polygon, whose corners cs are numbers of the vertices vs
unfoldable pub corner_of : List Vertex → List ℕ → ℕ → Vertex
corner_of vs cs k = get_or vs (get_or cs k 0) no_vertex

-- for this size and this height in millimetres
module _ (size height : Float) where
  -- the patterns of a point, and of three
  unfoldable pub point_of : Vertex → List ℕ
  point_of v = coordinate size v.x ∷ coordinate height v.y ∷ coordinate size v.z ∷ []

  unfoldable pub facet_of : Vertex → Vertex → Vertex → List ℕ
  facet_of a b c = point_of a ++ (point_of b ++ point_of c)

  -- "A polygon becomes a fan from its first corner": facet k has the corners 0, k + 1 and k + 2
  unfoldable pub fan_of : List Vertex → List ℕ → List (List ℕ)
  fan_of vs cs = tab (λ k. facet_of (corner_of vs cs 0) (corner_of vs cs (k + 1)) (corner_of vs cs (k + 2))) (length cs - 2)

  -- the facets of polygons, in their order
  unfoldable pub facets_of : List Vertex → List Polygon → List (List ℕ)
  facets_of vs ps = over [] ◌++◌ (λ i. fan_of vs (polygon_at ps i).corners) 0 (length ps)

-- how many they are: for each polygon two fewer than its corners
unfoldable pub facet_count : List Polygon → ℕ
facet_count ps = over 0 ◌+◌ (λ i. length (polygon_at ps i).corners - 2) 0 (length ps)

-- ---- the file

-- "50 bytes a facet, normal (zeros), three points of three f32 each, little-endian, and two zero bytes"
unfoldable pub facet_bytes : List ℕ → List ℕ
facet_bytes f = replicate 12 0 ++ (packed little f ++ replicate 2 0)

-- "80 zero bytes, the facet count in 32 bits little-endian, then 50 bytes a facet"
unfoldable pub file_of : List (List ℕ) → List ℕ
file_of fs = replicate 80 0 ++ (little (length fs) ++ packed facet_bytes fs)

-- how many bytes that is, of so many facets
unfoldable pub file_length : ℕ → ℕ
file_length facets = 84 + facets * 50

-- ---- reading: "Read such files back, and refuse a header, normal or attribute we wouldn't write."

-- what a file says: it is refused, or it has these facets
pub data Reading : Type 0 where
  wrong_length : Reading
  not_zero : ℕ → Reading
  facets_read : List (List ℕ) → Reading

-- the facet count in a file
unfoldable pub count_in : List ℕ → ℕ
count_in bs = from_little (view bs 80 4)

-- "72 length doesn't fit the count"; a file of under 84 bytes has none
unfoldable pub right_length : List ℕ → Bool
right_length bs = leb 84 (length bs) && eqb (length bs) (file_length (count_in bs))

-- where zero is due: in the header, and in the normal and the attribute of each facet
unfoldable pub zero_due : ℕ → Bool
zero_due i = ltb i 80 || (leb 84 i && (ltb ((i - 84) % 50) 12 || leb 48 ((i - 84) % 50)))

unfoldable pub wrong_at : List ℕ → ℕ → Bool
wrong_at bs i = zero_due i && not (eqb (get_or bs i 0) 0)

-- "73 nonzero where zero is due, with the first byte"
unfoldable pub first_wrong : List ℕ → Option ℕ
first_wrong bs = over None or_else (λ i. when (wrong_at bs i) i) 0 (length bs)

-- the nine patterns in a facet's 50 bytes, any of them
unfoldable pub facet_in : List ℕ → List ℕ
facet_in bs = blocks from_little bs 12 4 9

unfoldable pub facets_in : List ℕ → List (List ℕ)
facets_in bs = blocks facet_in bs 84 50 (count_in bs)

unfoldable pub after_zeros : List ℕ → Option ℕ → Reading
after_zeros bs (Some i) = not_zero i
after_zeros bs None = facets_read (facets_in bs)

-- "72 before 73"
unfoldable pub reading : List ℕ → Reading
reading bs = cond (right_length bs) (after_zeros bs (first_wrong bs)) wrong_length

-- ---- what is proved (crate `laws`, Stl)

-- nine patterns of 32 bits
pub record IsFacet (f : List ℕ) : Type 0 where
  pub nine : length f ≡ 9
  pub small : (i : ℕ) → get_or f i 0 < 4294967296

abbrev pub no_facet : List ℕ
no_facet = replicate 9 0

abbrev pub AreFacets : List (List ℕ) → Type 0
AreFacets fs = (i : ℕ) → IsFacet (get_or fs i no_facet)

-- "Reading what we wrote gives the same facets bit for bit."
abbrev pub ReadsBack : Type 0
ReadsBack = (fs : List (List ℕ)) → AreFacets fs → length fs < 4294967296 → reading (file_of fs) ≡ facets_read fs

-- .. of the facets of polygons
abbrev pub MeshReadsBack : Type 0
MeshReadsBack = (size height : Float) (vs : List Vertex) (ps : List Polygon) → facet_count ps < 4294967296
    → reading (file_of (facets_of size height vs ps)) ≡ facets_read (facets_of size height vs ps)

-- the file's length is 84 + 50 times the facets, and those are the sum of corners less two
abbrev pub FileIsLong : Type 0
FileIsLong = (size height : Float) (vs : List Vertex) (ps : List Polygon)
    → (length (facets_of size height vs ps) ≡ facet_count ps) × (length (file_of (facets_of size height vs ps)) ≡ file_length (facet_count ps))

-- of at most 65,535 polygons of at most 12 corners: the count fits its 32 bits
abbrev pub CountFits : Type 0
CountFits = (ps : List Polygon) → length ps ≤ 65535 → ((i : ℕ) → length (polygon_at ps i).corners ≤ 12) → facet_count ps ≤ 655350
