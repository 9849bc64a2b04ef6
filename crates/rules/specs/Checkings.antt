-- The table of examples of request 7, proved by computing: K3, K4 and K5 accepted, a row and more for each refusal, rows at the boundaries, and printed meshes.
use Rattle.std.specs.Prelude.{◌≡◌, refl, Bool, true, false, List, [], ◌∷◌, ◌++◌, ℕ, ℤ, pos, neg_ℤ, length, replicate}
use Prim.Native.String.{String}
use Rattle.mem.specs.Packed.{packed}
use Rattle.rules.specs.Computing.{rules}
use Rattle.rules.specs.Links.{none}
use Rattle.rules.specs.Job.{Job}
use Rattle.rules.specs.Build.{Outcome, refused, built, outcome}
use Rattle.rules.specs.Exits.{exits}
use Rattle.rules.specs.Examples.{room}
use Rattle.rules.specs.Lines.{ascii, lf}
use Rattle.rules.specs.Handed.{vertex_count, polygon_count, mesh_in, corner_word, link_word, all_of, any_of, first_fault, blocks_agree, within_limits, are_few}
use Rattle.rules.specs.Handed.{buffers_hold, corners_hold, names_back, link_holds, links_hold, or_fault, soundness, fault_number, fault_second}
use Rattle.rules.specs.Checker.{Claim, open_link, portal_holds, portals_hold, area_holds, sound_verdict, verdict}
use Rattle.rules.specs.Checker.{objection_number, objection_second, verdict_number, verdict_second, handed_on, own_claim}
use Rattle.rules.specs.CheckSheet.{row_words, need_whole, need_mesh, place_numbers, corner_numbers, link_numbers, with_place, with_polygon, read_polygons}
use Rattle.rules.specs.CheckSheet.{read_places, no_mesh_yet, read_mesh, read_claim, accepted_name, verdict_text, check_text}

-- ---- what an example says

-- a mesh of these vertices, polygons and links on a grid of 4 by 4, with this border, nvp and claim
abbrev mesh : List ℕ → List ℕ → List ℕ → ℕ → ℕ → ℤ → Claim
mesh vs ps ls border nvp total = record { mesh = record { nvp = nvp; vertices = vs; polygons = ps; links = ls }; w = 4; h = 4; border = border; total = total }

-- a mesh of no numbers, with this nvp and this claim
abbrev empty : ℕ → ℤ → Claim
empty nvp total = mesh [] [] [] 0 nvp total

-- what a build, in buffers longer than they need be, hands on
unfoldable pub own_of : Job → Outcome → Claim
own_of j (refused r) = empty 0 (pos 0)
own_of j (built m ls log) = own_claim j (exits j (room 2 j)) (length m.polygons) (length m.vertices)

-- lines as a text
unfoldable pub text : List String → List ℕ
text ts = packed (λ t. ascii t ++ (lf ∷ [])) ts

pub data Checking : Type 0 where
  -- a mesh, the verdict's number, and its second number
  says : Claim → ℕ → ℕ → Checking
  -- a job, and what its build hands on
  hands : Job → Claim → Checking
  -- so many vertices, so many polygons, and whether they are few enough
  few : ℕ → ℕ → Bool → Checking
  -- the lines of a printed mesh, and the line that is printed for it
  prints : List String → String → Checking

unfoldable pub CheckHolds : Checking → Type 0
CheckHolds (says m n k) = verdict_number (verdict m) ∷ verdict_second (verdict m) ∷ [] ≡ n ∷ k ∷ []
CheckHolds (hands j m) = own_of j (outcome j (room 2 j)) ≡ m
CheckHolds (few k n t) = are_few k n ≡ t
CheckHolds (prints ts u) = check_text (text ts) ≡ text (u ∷ [])

infixr 20 ◌&◌
pub data AllCheck : List Checking → Type 0 where
  end : AllCheck []
  ◌&◌ : {e : Checking} {es : List Checking} → CheckHolds e → AllCheck es → AllCheck (e ∷ es)

-- ---- the table's words

-- "Square: (0,0),(0,4),(4,4),(4,0) as x,z."
abbrev square : List ℕ
square = 0 ∷ 0 ∷ 0 ∷ 0 ∷ 0 ∷ 4 ∷ 4 ∷ 0 ∷ 4 ∷ 4 ∷ 0 ∷ 0 ∷ []

-- its job, with this nvp and this border, and y at its last vertex
abbrev job_of : ℕ → ℕ → Job
job_of nvp border = record {
  nvp = nvp;
  w = 4;
  h = 4;
  border = border;
  lengths = 4 ∷ [];
  regions = 1 ∷ [];
  codes = 7 ∷ [];
  numbers = 0 ∷ 0 ∷ 0 ∷ 0 ∷ 0 ∷ 0 ∷ 4 ∷ 0 ∷ 4 ∷ 0 ∷ 4 ∷ 0 ∷ 4 ∷ 0 ∷ 0 ∷ 0 ∷ [];
}

abbrev minus : ℕ → ℤ
minus n = neg_ℤ (pos n)

abbrev six : ℕ → ℕ → ℕ → ℕ → ℕ → ℕ → List ℕ
six a b c d e f = a ∷ b ∷ c ∷ d ∷ e ∷ f ∷ []

-- the square as one polygon, nvp 6 (K3), with these corners, links and claim
abbrev one : List ℕ → List ℕ → ℤ → Claim
one ps ls total = mesh square ps ls 0 6 total

-- the square as two triangles, nvp 3 (K4 and K5), with these corners, links and border
abbrev two : List ℕ → List ℕ → ℕ → Claim
two ps ls border = mesh square ps ls border 3 (minus 32)

abbrev whole : List ℕ
whole = six 0 1 2 3 none none

abbrev halves : List ℕ
halves = six 0 1 2 0 2 3

-- the links of K4, and of K5
abbrev joined : List ℕ
joined = six none none 1 0 none none

abbrev bordered : List ℕ
bordered = six 65536 65537 1 0 65538 65539

-- two triangles 0 0 1 at two vertices, with these links
abbrev flat : List ℕ → Claim
flat ls = mesh (six 0 0 0 1 0 0) (six 0 0 1 0 0 1) ls 0 3 (pos 0)

-- three triangles 0 1 2, 2 1 0 and 2 1 0 with these links: each of the latter two has every side of the first, the other way round
abbrev stack : List ℕ → Claim
stack ls = mesh (0 ∷ 0 ∷ 0 ∷ 0 ∷ 0 ∷ 4 ∷ 4 ∷ 0 ∷ 4 ∷ []) (0 ∷ 1 ∷ 2 ∷ 2 ∷ 1 ∷ 0 ∷ 2 ∷ 1 ∷ 0 ∷ []) ls 0 3 (pos 16)

-- one vertex, a triangle of it, and a mesh of such on a grid of 0 by 0, with this border and nvp and the claim 0
abbrev O : List ℕ
O = 0 ∷ 0 ∷ 0 ∷ []

abbrev T : List ℕ
T = 0 ∷ 0 ∷ 0 ∷ []

abbrev tiny : List ℕ → List ℕ → List ℕ → ℕ → ℕ → Claim
tiny vs ps ls border nvp = record { mesh = record { nvp = nvp; vertices = vs; polygons = ps; links = ls }; w = 0; h = 0; border = border; total = pos 0 }

-- a printed mesh with this `nvp` line, and the square's vertices
abbrev headed : String → List String → List String
headed nvp ls = "unit\tmm" ∷ "cell\t500\t250" ∷ nvp ∷ "grid\t4\t4\t0" ∷ ls

abbrev places : List String
places = "v\t0\t0\t0" ∷ "v\t0\t0\t4" ∷ "v\t4\t0\t4" ∷ "v\t4\t0\t0" ∷ []

-- ---- the table
abbrev pub checkings : List Checking
checkings =
    -- "Every mesh we build, with its own total, is accepted.": K3, K4 and K5, as a build leaves them
    hands (job_of 6 0) (one whole (replicate 6 none) (minus 32)) ∷
    says (one whole (replicate 6 none) (minus 32)) 0 0 ∷
    hands (job_of 3 0) (two halves joined 0) ∷
    says (two halves joined 0) 0 0 ∷
    hands (job_of 3 1) (two halves bordered 1) ∷
    says (two halves bordered 1) 0 0 ∷
    -- an empty mesh with the claim 0 is accepted, and with another it is not
    says (empty 3 (pos 0)) 0 0 ∷
    says (empty 12 (pos 0)) 0 0 ∷
    says (empty 3 (pos 1)) 44 0 ∷
    -- 40: "buffers that don't agree in count": part of a vertex, part of a polygon, a link too few, links for one polygon more
    says (mesh (0 ∷ square) whole (replicate 6 none) 0 6 (minus 32)) 40 0 ∷
    says (one (none ∷ whole) (replicate 7 none) (minus 32)) 40 0 ∷
    says (one whole (replicate 5 none) (minus 32)) 40 0 ∷
    says (one whole (replicate 12 none) (minus 32)) 40 0 ∷
    -- 40: "nvp .. outside 01's limits", an empty mesh too
    says (empty 2 (pos 0)) 40 0 ∷
    says (empty 13 (pos 0)) 40 0 ∷
    says (empty 0 (pos 0)) 40 0 ∷
    -- 40: "x or z outside 01's limits"; y has none; an unused vertex counts, and one within the limits does not matter
    says (mesh (square ++ (32767 ∷ 65535 ∷ 32767 ∷ [])) whole (replicate 6 none) 0 6 (minus 32)) 0 0 ∷
    says (mesh (square ++ (32768 ∷ 0 ∷ 0 ∷ [])) whole (replicate 6 none) 0 6 (minus 32)) 40 0 ∷
    says (mesh (square ++ (0 ∷ 0 ∷ 32768 ∷ [])) whole (replicate 6 none) 0 6 (minus 32)) 40 0 ∷
    -- 40: "or over 65,535 vertices or polygons"
    few 65535 65535 true ∷
    few 65536 0 false ∷
    few 0 65536 false ∷
    -- 40 comes before 41: a high z, and a corner that is no vertex
    says (mesh (0 ∷ 0 ∷ 32768 ∷ []) (0 ∷ 0 ∷ 1 ∷ []) (replicate 3 none) 0 3 (pos 0)) 40 0 ∷
    -- 41: a corner that is no vertex; two corners; none; a corner behind a 65,535
    says (two (six 0 1 2 0 2 4) joined 0) 41 1 ∷
    says (one (six 0 1 none none none none) (replicate 6 none) (pos 0)) 41 0 ∷
    says (one (replicate 6 none) (replicate 6 none) (pos 0)) 41 0 ∷
    says (one (six 0 1 2 none 3 none) (replicate 6 none) (minus 16)) 41 0 ∷
    says (one (six none 0 1 2 3 none) (replicate 6 none) (pos 0)) 41 0 ∷
    -- 41 and 42: the first polygon at fault is named
    says (two (six 0 4 2 0 2 4) joined 0) 41 0 ∷
    says (two halves (six 65540 none 1 0 none 65540) 0) 42 0 ∷
    -- 41 is looked for in the whole mesh before 42: polygon 0 has a bad link, polygon 1 a bad corner
    says (two (six 0 1 2 0 2 4) (six 65540 none 1 0 none none) 0) 41 1 ∷
    -- 42: the link from 0 to 1 is cut, and 1, which still bears one, is at fault; the other way round it is 0; both cut leaves open sides
    says (two halves (six none none none 0 none none) 0) 42 1 ∷
    says (two halves (six none none 1 none none none) 0) 42 0 ∷
    says (two halves (replicate 6 none) 0) 0 0 ∷
    -- 42: the link stands at a side that doesn't run against the one that names it
    says (two halves (six 1 none none 0 none none) 0) 42 0 ∷
    -- 42: "A link above 65,539, or one to no polygon of the mesh"
    says (one whole (six 65540 none none none none none) (minus 32)) 42 0 ∷
    says (one whole (six none 1 none none none none) (minus 32)) 42 0 ∷
    says (one whole (six none 65534 none none none none) (minus 32)) 42 0 ∷
    says (two halves (six none none 1 0 none 65540) 0) 42 1 ∷
    -- 42: "another polygon": its own is none, even if it has a side that runs the other way
    says (one whole (six none none 0 none none none) (minus 32)) 42 0 ∷
    says (mesh (six 0 0 0 1 0 0) (0 ∷ 1 ∷ 0 ∷ []) (0 ∷ 0 ∷ none ∷ []) 0 3 (pos 0)) 42 0 ∷
    says (mesh (six 0 0 0 1 0 0) (0 ∷ 1 ∷ 0 ∷ []) (replicate 3 none) 0 3 (pos 0)) 0 0 ∷
    -- 42: "a link past the last corner other than 65,535", a portal's number too
    says (one whole (six none none none none 0 none) (minus 32)) 42 0 ∷
    says (one whole (six none none none none none 65536) (minus 32)) 42 0 ∷
    -- "names it back": one such side is enough, whichever it is; and a side from a vertex to itself may be linked to another such
    says (flat (six none 1 1 none 0 0)) 0 0 ∷
    says (flat (six 1 none none 0 none none)) 0 0 ∷
    -- .. any two that name each other will do, though R6 would choose; and two polygons may not both name a third that names one of them
    says (stack (1 ∷ none ∷ none ∷ none ∷ 0 ∷ none ∷ none ∷ none ∷ none ∷ [])) 0 0 ∷
    says (stack (2 ∷ none ∷ none ∷ none ∷ none ∷ none ∷ none ∷ 0 ∷ none ∷ [])) 0 0 ∷
    says (stack (1 ∷ none ∷ none ∷ none ∷ 0 ∷ none ∷ none ∷ 0 ∷ none ∷ [])) 42 2 ∷
    -- 43: a portal is missing; it is another one; it is there though the border is 0; it is there though the side is not on the grid's edge
    says (two halves joined 1) 43 0 ∷
    says (two halves (six 65536 65537 1 0 65538 65538) 1) 43 1 ∷
    says (two halves bordered 0) 43 0 ∷
    says (two halves (six 65536 65537 65539 none 65538 65539) 1) 43 0 ∷
    says (two halves (six 65536 65537 none none 65538 65539) 1) 0 0 ∷
    -- 43: 65,536 to 65,539 on a side say that it is open: 43 decides, and not 42
    says (one whole (six 65539 none none none none none) (minus 32)) 43 0 ∷
    -- 42 is looked for in the whole mesh before 43, and 43 before 44
    says (two halves (six 65536 none none 0 none none) 0) 42 1 ∷
    says (one whole (six 65536 none none none none none) (pos 0)) 43 0 ∷
    -- 44: the claim is off by one; it has the other sign
    says (one whole (replicate 6 none) (minus 31)) 44 0 ∷
    says (one whole (replicate 6 none) (pos 32)) 44 0 ∷
    -- the smallest inputs at which readings of document 02 part (docs/DECISIONS.md)
    says (tiny O T (65536 ∷ none ∷ none ∷ []) 0 3) 43 0 ∷
    says (tiny O (T ++ T) (six 65536 none none 1 none none) 0 3) 42 1 ∷
    says (tiny O (T ++ T) (six none none none 0 none none) 0 3) 42 1 ∷
    says (tiny O (T ++ T) (six 1 none none none 0 none) 0 3) 0 0 ∷
    says (tiny O (T ++ T) (six 1 1 none 0 none none) 0 3) 0 0 ∷
    says (tiny (O ++ (1 ∷ 0 ∷ 0 ∷ [])) (six 0 0 0 1 1 1) (six 1 none none 0 none none) 0 3) 42 0 ∷
    says (tiny O (T ++ T) (six 1 none none 0 none none) 0 3) 0 0 ∷
    says (tiny (six 0 0 0 0 0 1) (six 0 0 1 0 0 1) (replicate 6 none) 0 3) 0 0 ∷
    says (tiny O T (0 ∷ none ∷ none ∷ []) 0 3) 42 0 ∷
    says (tiny O T (replicate 3 none) 1 3) 43 0 ∷
    says (tiny (1 ∷ 0 ∷ 0 ∷ []) T (replicate 3 65537) 1 3) 0 0 ∷
    says (tiny O (T ++ (none ∷ [])) (none ∷ none ∷ none ∷ 0 ∷ []) 0 4) 42 0 ∷
    says (tiny O (T ++ (none ∷ [])) (none ∷ none ∷ none ∷ 65536 ∷ []) 0 4) 42 0 ∷
    says (tiny O (0 ∷ 0 ∷ none ∷ 0 ∷ []) (replicate 4 none) 0 4) 41 0 ∷
    says (tiny O (0 ∷ 0 ∷ none ∷ []) (replicate 3 none) 0 3) 41 0 ∷
    says (tiny O T (replicate 3 none) 0 3) 0 0 ∷
    says (tiny O (T ++ (0 ∷ 0 ∷ 1 ∷ [])) (replicate 6 none) 0 3) 41 1 ∷
    says (tiny (32768 ∷ 0 ∷ 0 ∷ []) [] [] 0 3) 40 0 ∷
    says (tiny (0 ∷ 32768 ∷ 0 ∷ []) [] [] 0 3) 0 0 ∷
    says (tiny (0 ∷ []) [] [] 0 3) 40 0 ∷
    says (tiny (0 ∷ []) [] [] 0 13) 40 0 ∷
    says (empty 3 (pos 4294967296)) 44 0 ∷
    -- a printed mesh: K3, with `nvp` and `grid` behind `cell`
    prints (headed "nvp\t6" ("mesh\t4\t1\t-32" ∷ places ++ ("p\t1\t7\t0\t1\t2\t3" ∷ "n\t65535\t65535\t65535\t65535" ∷ []))) "accepted" ∷
    -- .. the sliver 0 1 2 is taken out, and the claim left as it was: 44
    prints (headed "nvp\t6" ("mesh\t4\t1\t-32" ∷ places ++ ("p\t1\t7\t0\t2\t3" ∷ "n\t65535\t65535\t65535" ∷ []))) "refused\t44\t0" ∷
    -- a mesh of nothing; its claim may not be -0
    prints (headed "nvp\t3" ("mesh\t0\t0\t0" ∷ [])) "accepted" ∷
    prints (headed "nvp\t3" ("mesh\t0\t0\t-0" ∷ [])) "refused\t22\t5" ∷
    prints (headed "nvp\t3" ("mesh\t0\t0\t-1" ∷ [])) "refused\t44\t0" ∷
    -- nvp 2 and nvp 13 are 40
    prints (headed "nvp\t2" ("mesh\t0\t0\t0" ∷ [])) "refused\t40\t0" ∷
    prints (headed "nvp\t13" ("mesh\t0\t0\t0" ∷ [])) "refused\t40\t0" ∷
    -- as `./mesh` prints it, without `nvp` and `grid`: 22 with line 3; without a unit: 21
    prints ("unit\tmm" ∷ "cell\t1\t1" ∷ "mesh\t0\t0\t0" ∷ []) "refused\t22\t3" ∷
    prints [] "refused\t21\t1" ∷
    -- a vertex is missing, or a polygon's links; a line too many; a link too few; a corner past nvp
    prints (headed "nvp\t3" ("mesh\t1\t0\t0" ∷ [])) "refused\t22\t6" ∷
    prints (headed "nvp\t3" ("mesh\t0\t1\t0" ∷ "p\t0\t0" ∷ [])) "refused\t22\t7" ∷
    prints (headed "nvp\t3" ("mesh\t0\t0\t0" ∷ "v\t0\t0\t0" ∷ [])) "refused\t22\t6" ∷
    prints (headed "nvp\t3" ("mesh\t0\t1\t0" ∷ "p\t0\t0\t0" ∷ "n" ∷ [])) "refused\t22\t7" ∷
    prints (headed "nvp\t3" ("mesh\t0\t1\t0" ∷ "p\t0\t0\t0\t0\t0\t0" ∷ "n\t0\t0\t0\t0" ∷ [])) "refused\t22\t6" ∷
    -- what can be read is the checker's: a polygon without corners, a link of 32 bits
    prints (headed "nvp\t3" ("mesh\t0\t1\t0" ∷ "p\t0\t0" ∷ "n" ∷ [])) "refused\t41\t0" ∷
    prints (headed "nvp\t3" ("mesh\t1\t1\t0" ∷ "v\t0\t0\t0" ∷ "p\t0\t0\t0\t0\t0" ∷ "n\t65535\t4294967295\t65535" ∷ [])) "refused\t42\t0" ∷
    -- the counts of a `mesh` line
    prints (headed "nvp\t3" ("mesh\t8193\t0\t0" ∷ [])) "refused\t22\t5" ∷
    prints (headed "nvp\t3" ("mesh\t8192\t0\t0" ∷ [])) "refused\t22\t6" ∷
    []

-- each row holds
pub all_check : AllCheck checkings
unfolding rules room vertex_count polygon_count mesh_in corner_word link_word all_of any_of first_fault blocks_agree within_limits are_few buffers_hold corners_hold names_back link_holds links_hold or_fault soundness fault_number fault_second open_link portal_holds portals_hold area_holds sound_verdict verdict objection_number objection_second verdict_number verdict_second handed_on own_claim own_of text row_words need_whole need_mesh place_numbers corner_numbers link_numbers with_place with_polygon read_polygons read_places no_mesh_yet read_mesh read_claim accepted_name verdict_text check_text CheckHolds
all_check =
    refl & refl & refl & refl & refl & refl & refl & refl & refl & refl & refl & refl & refl & refl & refl & refl & refl & refl & refl & refl &
    refl & refl & refl & refl & refl & refl & refl & refl & refl & refl & refl & refl & refl & refl & refl & refl & refl & refl & refl & refl &
    refl & refl & refl & refl & refl & refl & refl & refl & refl & refl & refl & refl & refl & refl & refl & refl & refl & refl & refl & refl &
    refl & refl & refl & refl & refl & refl & refl & refl & refl & refl & refl & refl & refl & refl & refl & refl & refl & refl & refl & refl &
    refl & refl & refl & refl & refl & refl & refl & refl & refl & refl & refl & refl & refl & refl & refl & refl & refl & refl & refl & end
