-- Request 11, the calls: what writing and reading a binary STL answer, refusals 70 to 73 in their order, and every lent word at exit. Definitions; at the end
-- what is proved of them, in crate `laws`.
use Rattle.std.specs.Prelude.{◌≡◌, true, cond, ◌↔◌, List, [], ◌∷◌, ℕ, ◌*◌, ◌<◌, leb, length, Result, Ok, Err}
use Rattle.mem.specs.Slice.{splice}
use Rattle.mem.specs.Packed.{packed}
use Rattle.rules.specs.Handed.{Handed, mesh_in, soundness, fault_number, fault_second}
use Rattle.rules.specs.Stl.{Scale, size_of, height_of, is_scale, facets_of, facet_count, file_of, file_length}
use Rattle.rules.specs.Stl.{Reading, wrong_length, not_zero, facets_read, facets_in, reading}
use Rattle.rules.specs.declared.StlRefusal.{StlRefusal}
use Rattle.rules.specs.declared.StlRefusal.TheVariants.{BadMesh, BadScale, ShortFile}
use Rattle.rules.specs.declared.UnstlRefusal.{UnstlRefusal}
use Rattle.rules.specs.declared.UnstlRefusal.TheVariants.{BadLength, NotZero, ShortPoints}

-- ---- writing: a mesh that is handed in, its scale, and the lent bytes

-- the facets of the mesh, how many they are, and its file
unfoldable pub mesh_facets : Handed → Scale → List (List ℕ)
mesh_facets m s = facets_of (size_of s) (height_of s) (mesh_in m).vertices (mesh_in m).polygons

unfoldable pub mesh_count : Handed → ℕ
mesh_count m = facet_count (mesh_in m).polygons

unfoldable pub mesh_file : Handed → Scale → List ℕ
mesh_file m s = file_of (mesh_facets m s)

-- "71 room, exactly when the file needs more bytes than lent"
unfoldable pub room_reply : ℕ → ℕ → Result ℕ StlRefusal
room_reply n room = cond (leb (file_length n) room) (Ok n) (Err ShortFile)

-- "Later asks on meshes give 40 to 42 first"; "70 .., before 71"
unfoldable pub stl_reply : Handed → Scale → ℕ → Result ℕ StlRefusal
stl_reply m s room = elim (soundness m) [
  | Err f ↦ Err (BadMesh f)
  | Ok _ ↦ cond (is_scale s) (room_reply (mesh_count m) room) (Err BadScale)
]

-- the lent bytes at exit: the file stands at their beginning, and the others are as they were; "no later refusal writes"
unfoldable pub stl_left : List ℕ → List ℕ → Result ℕ StlRefusal → List ℕ
stl_left file bytes (Ok n) = splice bytes 0 file
stl_left file bytes (Err r) = bytes

unfoldable pub stl_exit : Handed → Scale → List ℕ → List ℕ
stl_exit m s bytes = stl_left (mesh_file m s) bytes (stl_reply m s (length bytes))

-- a refusal's number, and its second number: a fault's own, and else 0
unfoldable pub stl_refusal_number : StlRefusal → ℕ
stl_refusal_number (BadMesh f) = fault_number f
stl_refusal_number BadScale = 70
stl_refusal_number ShortFile = 71

unfoldable pub stl_refusal_second : StlRefusal → ℕ
stl_refusal_second (BadMesh f) = fault_second f
stl_refusal_second BadScale = 0
stl_refusal_second ShortFile = 0

-- the reply's number; its second number is the count of facets for 0, a fault's own, and else 0
unfoldable pub stl_number : Result ℕ StlRefusal → ℕ
stl_number (Ok n) = 0
stl_number (Err r) = stl_refusal_number r

unfoldable pub stl_second : Result ℕ StlRefusal → ℕ
stl_second (Ok n) = n
stl_second (Err r) = stl_refusal_second r

-- .. as three numbers; the third is 0
unfoldable pub stl_words : Result ℕ StlRefusal → List ℕ
stl_words r = stl_number r ∷ stl_second r ∷ 0 ∷ []

-- ---- reading: a file, and the lent words

-- the words of facets: their patterns, nine a facet
unfoldable pub facet_words : List ℕ → List ℕ
facet_words f = f

unfoldable pub point_words : List (List ℕ) → List ℕ
point_words fs = packed facet_words fs

-- "72 before 73, then 71 if the facets read don't fit": nine words each
unfoldable pub unstl_answer : Reading → ℕ → Result ℕ UnstlRefusal
unstl_answer wrong_length room = Err BadLength
unstl_answer (not_zero i) room = Err (NotZero i)
unstl_answer (facets_read fs) room = cond (leb (length fs * 9) room) (Ok (length fs)) (Err ShortPoints)

unfoldable pub unstl_reply : List ℕ → ℕ → Result ℕ UnstlRefusal
unstl_reply file room = unstl_answer (reading file) room

-- the lent words at exit: the patterns stand at their beginning, and the others are as they were
unfoldable pub unstl_left : List ℕ → List ℕ → Result ℕ UnstlRefusal → List ℕ
unstl_left points words (Ok n) = splice words 0 points
unstl_left points words (Err r) = words

unfoldable pub unstl_exit : List ℕ → List ℕ → List ℕ
unstl_exit file words = unstl_left (point_words (facets_in file)) words (unstl_reply file (length words))

-- a refusal's number, and its second number: the first byte that is not zero for 73, and else 0
unfoldable pub unstl_refusal_number : UnstlRefusal → ℕ
unstl_refusal_number BadLength = 72
unstl_refusal_number (NotZero i) = 73
unstl_refusal_number ShortPoints = 71

unfoldable pub unstl_refusal_second : UnstlRefusal → ℕ
unstl_refusal_second BadLength = 0
unstl_refusal_second (NotZero i) = i
unstl_refusal_second ShortPoints = 0

-- the reply's number and its second number: the count of facets for 0, the first byte that is not zero for 73, and else 0
unfoldable pub unstl_number : Result ℕ UnstlRefusal → ℕ
unstl_number (Ok n) = 0
unstl_number (Err r) = unstl_refusal_number r

unfoldable pub unstl_second : Result ℕ UnstlRefusal → ℕ
unstl_second (Ok n) = n
unstl_second (Err r) = unstl_refusal_second r

unfoldable pub unstl_words : Result ℕ UnstlRefusal → List ℕ
unstl_words r = unstl_number r ∷ unstl_second r ∷ 0 ∷ []

-- ---- what is proved (crate `laws`, StlCall)

-- "71 room, exactly when the file needs more bytes than lent"
abbrev pub ShortExactly : Type 0
ShortExactly = (m : Handed) (s : Scale) (room : ℕ) → soundness m ≡ (Ok tt) → is_scale s ≡ true → (stl_reply m s room ≡ Err ShortFile) ↔ (room < length (mesh_file m s))

-- what was written is read again, from just the bytes of the file
abbrev pub WrittenReadsBack : Type 0
WrittenReadsBack = (m : Handed) (s : Scale) (room n : ℕ) → stl_reply m s room ≡ Ok n → reading (mesh_file m s) ≡ facets_read (mesh_facets m s)
