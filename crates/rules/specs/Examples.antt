-- K1 to K12 of the document, and behind them rows of our own: a single table under a single statement, proved by computing. The rows of our own are there
-- because the document's rows don't notice every change to a rule; each says what it shows.
use Rattle.std.specs.Prelude.{◌≡◌, refl, Bool, true, false, List, [], ◌∷◌, ◌++◌, map, reverse, ℕ, ◌+◌, ℤ, pos, neg_ℤ, ◌+ℤ◌, Float, length, get_or, replicate}
use Prim.Native.String.{String}
use Rattle.std.specs.Float.Ieee.{mul, of_bits}
use Rattle.mem.specs.Packed.{packed}
use Rattle.rules.specs.Computing.{rules}
use Rattle.rules.specs.Plane.{area, squared, intersect}
use Rattle.rules.specs.Ears.{key_of}
use Rattle.rules.specs.Weld.{weld_all, bucket}
use Rattle.rules.specs.Mesh.{Polygon}
use Rattle.rules.specs.Removal.{Removal}
use Rattle.rules.specs.Links.{none}
use Rattle.rules.specs.Job.{Job}
use Rattle.rules.specs.Replies.{Reply, number_of_reply, second_of, third_of}
use Rattle.rules.specs.Checks.{Lent, least_lengths, Checked, passed, refusal, check_v}
use Rattle.rules.specs.Build.{Outcome, refused, built, weld_height, outcome, reply_of}
use Rattle.rules.specs.Exits.{exits}
use Rattle.rules.specs.Areas.{mesh_area}
use Rattle.rules.specs.Boxes.{boxes_apart, are_apart}
use Rattle.rules.specs.Outlines.{turned, arc}
use Rattle.rules.specs.Units.{per_inch, millimetres}
use Rattle.rules.specs.Distance.{unit}
use Rattle.rules.specs.Lines.{ascii}
use Rattle.rules.specs.Sheet.{text_of}
use Rattle.rules.specs.declared.Point.{Point}
use Rattle.rules.specs.declared.Vertex.{Vertex}
use Rattle.rules.specs.declared.Refusal.TheVariants.{TooManyVertices}
use Rattle.rules.specs.declared.CellSize.{CellSize}
use Rattle.rules.specs.declared.CellSize.TheVariants.{Millimetres, Inches}

-- ---- what an example says

-- what is seen of a build: the reply's three numbers; the mesh's vertices, polygons, links and doubled area, and its removals (nothing, and 0, of a refusal)
pub record Seen : Type 0 where
  pub reply : List ℕ
  pub vertices : List Vertex
  pub polygons : List Polygon
  pub links : List (List ℕ)
  pub doubled : ℤ
  pub removals : List Removal

unfoldable pub numbers_of : Reply → List ℕ
numbers_of r = number_of_reply r ∷ second_of r ∷ third_of r ∷ []

unfoldable pub seen : Outcome → Seen
seen (refused r) = record { reply = numbers_of (reply_of (refused r)); vertices = []; polygons = []; links = []; doubled = pos 0; removals = [] }
seen (built m ls log) = record {
  reply = numbers_of (reply_of (built m ls log));
  vertices = m.vertices;
  polygons = m.polygons;
  links = ls;
  doubled = mesh_area m;
  removals = log;
}

-- how a build ends: the reply's three numbers, and what the buffers hold
pub record Ended : Type 0 where
  pub reply : List ℕ
  pub buffers : Lent

unfoldable pub ended : Job → Lent → Ended
ended j b = record { reply = numbers_of (reply_of (outcome j b)); buffers = exits j b }

-- buffers with so many words more than the least, each of them 9
unfoldable pub room : ℕ → Job → Lent
room more j =
    let nines : ℕ → List ℕ = λ k. replicate (get_or (least_lengths j) k 0 + more) 9 in
    record { vertices = nines 0; polygons = nines 1; neighbours = nines 2; regions = nines 3; codes = nines 4; flags = nines 5; work = nines 6 }

-- corners, and their doubled area
pub record Outline : Type 0 where
  pub corners : List Point
  pub doubled : ℤ

unfoldable pub outline : List Point → Outline
outline l = record { corners = l; doubled = area l }

pub data Example : Type 0 where
  -- a job in buffers just long enough, and what is seen
  builds : Job → Seen → Example
  -- a job in these buffers, the reply's three numbers, and what the buffers hold at the end
  leaves : Job → Lent → List ℕ → Lent → Example
  -- vertices welded one after the other, and their numbers
  welds : List Vertex → List ℕ → Example
  -- two points, their squared length, and its key
  keys : Point → Point → ℕ → ℕ → Example
  -- x, z and the bucket
  stands : ℕ → ℕ → ℕ → Example
  -- a job, and what the check of V says of it
  checks : Job → Checked → Example
  -- a cell size, and how many millimetres it is
  measures : CellSize → Float → Example
  -- a sheet, and what is printed for it
  prints : String → String → Example
  -- two segments: whether their boxes don't meet, whether both have a length too, and whether they cross or touch
  parts : Point → Point → Point → Point → List Bool → Example
  -- an outline, a place, and its corners turned to start there: the area stays
  turns : Outline → ℕ → List Point → Example
  -- an outline, and its corners reversed: the area's sign changes
  reverses : Outline → List Point → Example
  -- corners, two places, the outlines from the first round to the second and from the second round to the first: the areas add up
  cuts : List Point → ℕ → ℕ → Outline → Outline → Example

unfoldable pub Holds : Example → Type 0
Holds (builds j s) = seen (outcome j (room 0 j)) ≡ s
Holds (leaves j b r e) = ended j b ≡ record { reply = r; buffers = e }
Holds (welds vs ns) = (weld_all weld_height vs [] (record { vertices = []; marks = []; numbers = [] })).numbers ≡ ns
Holds (keys a b s k) = squared a b ∷ key_of a b ∷ [] ≡ s ∷ k ∷ []
Holds (stands x z k) = bucket x z ≡ k
Holds (checks j c) = check_v j ≡ c
Holds (measures c x) = millimetres c ≡ x
Holds (prints s t) = text_of (ascii s) ≡ ascii t
Holds (parts a b c d ts) = boxes_apart a b c d ∷ are_apart a b c d ∷ intersect a b c d ∷ [] ≡ ts
Holds (turns o k m) = outline o.corners ∷ outline (turned o.corners k) ∷ [] ≡ o ∷ record { corners = m; doubled = o.doubled } ∷ []
Holds (reverses o m) = outline o.corners ∷ outline (reverse o.corners) ∷ [] ≡ o ∷ record { corners = m; doubled = neg_ℤ o.doubled } ∷ []
Holds (cuts l i j a b) =
    outline l ∷ outline (arc l i j) ∷ outline (arc l j i) ∷ [] ≡ record { corners = l; doubled = a.doubled +ℤ b.doubled } ∷ a ∷ b ∷ []

-- each of a list of examples holds
infixr 20 ◌&◌
pub data AllHold : List Example → Type 0 where
  end : AllHold []
  ◌&◌ : {e : Example} {es : List Example} → Holds e → AllHold es → AllHold (e ∷ es)

-- ---- the table's words

abbrev three : {A : Type 0} → A → A → A → List A
three a b c = a ∷ b ∷ c ∷ []

abbrev four : {A : Type 0} → A → A → A → A → List A
four a b c d = a ∷ b ∷ c ∷ d ∷ []

-- a vertex of a contour at x, z, and one that is flagged
abbrev v : ℕ → ℕ → List ℕ
v x z = four x 0 z 0

abbrev f : ℕ → ℕ → List ℕ
f x z = four x 0 z 1

-- a contour: its region, its area code, its vertices
record Contour : Type 0 where
  region : ℕ
  code : ℕ
  vertices : List (List ℕ)

abbrev of : ℕ → ℕ → List (List ℕ) → Contour
of region code vs = record { region = region; code = code; vertices = vs }

-- a job of these contours, on a grid of w by h with this border
abbrev job_of : ℕ → ℕ → ℕ → ℕ → List Contour → Job
job_of nvp w h border cs = record {
  nvp = nvp;
  w = w;
  h = h;
  border = border;
  lengths = map (λ c. length c.vertices) cs;
  regions = map (λ c. c.region) cs;
  codes = map (λ c. c.code) cs;
  numbers = packed (λ c. packed (λ n. n) c.vertices) cs;
}

-- contours with no border; one contour of region 1 and area code 7, on a grid of 4 by 4 with this border
abbrev contours : ℕ → List Contour → Job
contours nvp cs = job_of nvp 4 4 0 cs

abbrev contour : ℕ → ℕ → List (List ℕ) → Job
contour nvp border vs = job_of nvp 4 4 border (of 1 7 vs ∷ [])

-- a vertex of a mesh at x, z with y = 0
abbrev at : ℕ → ℕ → Vertex
at x z = record { x = x; y = 0; z = z }

-- a polygon of region 1 and area code 7
abbrev poly : List ℕ → Polygon
poly cs = record { corners = cs; region = 1; code = 7 }

-- a mesh of these vertices, polygons and links, of this doubled area, after these removals; and one from which nothing was removed
abbrev cleared : List Vertex → List Polygon → List (List ℕ) → ℤ → List Removal → Seen
cleared vs ps ls a log = record { reply = three 0 (length ps) (length vs); vertices = vs; polygons = ps; links = ls; doubled = a; removals = log }

abbrev mesh : List Vertex → List Polygon → List (List ℕ) → ℤ → Seen
mesh vs ps ls a = cleared vs ps ls a []

abbrev reply : ℕ → ℕ → Seen
reply n second = record { reply = three n second 0; vertices = []; polygons = []; links = []; doubled = pos 0; removals = [] }

-- a removal: the vertex, its place, and the places of the chain's first and last
abbrev opened : ℕ → Point → Point → Point → Removal
opened vertex place first last = record { vertex = vertex; removed = place; closed = false; first = first; last = last }

abbrev shut : ℕ → Point → Point → Point → Removal
shut vertex place first last = record { vertex = vertex; removed = place; closed = true; first = first; last = last }

-- the number −n, for an n above 0
abbrev minus : ℕ → ℤ
minus n = neg_ℤ (pos n)

abbrev p : ℕ → ℕ → Point
p x z = record { x = x; z = z }

-- "Square: (0,0),(0,4),(4,4),(4,0) as x,z."
abbrev square : List (List ℕ)
square = four (v 0 0) (v 0 4) (v 4 4) (v 4 0)

-- an outline of this doubled area
abbrev has : ℤ → List Point → Outline
has a l = record { corners = l; doubled = a }

-- K8's trim line, three of its points in line; and the square, with its first corner doubled and a spike from (4,4) to (6,4) and back
abbrev trim : List Point
trim = p 0 0 ∷ p 0 2 ∷ p 0 4 ∷ p 4 4 ∷ p 4 0 ∷ []

abbrev spiked : List Point
spiked = p 0 0 ∷ p 0 0 ∷ p 0 4 ∷ p 4 4 ∷ p 6 4 ∷ p 4 4 ∷ p 4 0 ∷ []

abbrev reversed : List (List ℕ)
reversed = four (v 4 0) (v 4 4) (v 0 4) (v 0 0)

abbrev corners4 : List Vertex
corners4 = four (at 0 0) (at 0 4) (at 4 4) (at 4 0)

-- a triangle with its last corner at x
abbrev high : ℕ → List (List ℕ)
high x = three (v 0 0) (v 0 4) (v x 4)

abbrev one_place : ℕ → Vertex
one_place y = record { x = 9; y = y; z = 9 }

-- its hole has no ear once the flagged vertex goes
abbrev tangled : List (List ℕ)
tangled = v 0 0 ∷ v 0 0 ∷ v 1 0 ∷ v 0 2 ∷ f 2 0 ∷ []

-- buffers of nines for K3, of which the codes are too few, and the work too
abbrev tight : Lent
tight = record {
  vertices = replicate 12 9;
  polygons = replicate 12 9;
  neighbours = replicate 12 9;
  regions = replicate 2 9;
  codes = replicate 1 9;
  flags = replicate 2 9;
  work = replicate 4607 9;
}

-- ---- the table
abbrev pub examples : List Example
examples =
    -- K1 "No contours, nvp 6: 0 polygons."  K2 "One contour of 2: likewise."
    builds (contours 6 []) (mesh [] [] [] (pos 0)) ∷
    builds (contour 6 0 (v 0 0 ∷ v 0 4 ∷ [])) (mesh [] [] [] (pos 0)) ∷
    -- K3 "Square, nvp 6: polygon 0 1 2 3, area −32."
    builds (contour 6 0 square) (mesh corners4 (poly (four 0 1 2 3) ∷ []) (four none none none none ∷ []) (minus 32)) ∷
    -- K4 "nvp 3: 0 1 2 and 0 2 3, linked."
    builds (contour 3 0 square)
    (mesh corners4 (poly (three 0 1 2) ∷ poly (three 0 2 3) ∷ []) (three none none 1 ∷ three 0 none none ∷ []) (minus 32)) ∷
    -- K5 "K4, border 1, w=h=4: links 65536, 65537, 1 and 0, 65538, 65539."
    builds (contour 3 1 square)
    (mesh corners4 (poly (three 0 1 2) ∷ poly (three 0 2 3) ∷ []) (three 65536 65537 1 ∷ three 0 65538 65539 ∷ []) (minus 32)) ∷
    -- K6 "Square reversed: 7."
    builds (contour 6 0 reversed) (reply 7 0) ∷
    -- K7 "Three points in line: one triangle, area 0."
    builds (contour 6 0 (three (v 0 0) (v 0 2) (v 0 4)))
    (mesh (three (at 0 0) (at 0 2) (at 0 4)) (poly (three 0 1 2) ∷ []) (three none none none ∷ []) (pos 0)) ∷
    -- K8 "(0,0),(0,2),(0,4),(4,4),(4,0), nvp 6: 1 2 3 4 and 0 1 4."
    builds (contour 6 0 (v 0 0 ∷ v 0 2 ∷ v 0 4 ∷ v 4 4 ∷ v 4 0 ∷ []))
    (mesh (at 0 0 ∷ at 0 2 ∷ at 0 4 ∷ at 4 4 ∷ at 4 0 ∷ []) (poly (four 1 2 3 4) ∷ poly (three 0 1 4) ∷ [])
    (four none none none 1 ∷ three none 0 none ∷ []) (minus 32)) ∷
    -- "With (0,2) flagged: 1 2 3 0, area −32."
    builds (contour 6 0 (v 0 0 ∷ f 0 2 ∷ v 0 4 ∷ v 4 4 ∷ v 4 0 ∷ []))
    (cleared corners4 (poly (four 1 2 3 0) ∷ []) (four none none none none ∷ []) (minus 32)
    (opened 1 (p 0 2) (p 0 4) (p 0 0) ∷ [])) ∷
    -- K9 "At one x,z, y = 0, 2, 4, 3, 2 weld to 0, 0, 1, 1, 1."
    welds (one_place 0 ∷ one_place 2 ∷ one_place 4 ∷ one_place 3 ∷ one_place 2 ∷ []) (0 ∷ 0 ∷ 1 ∷ 1 ∷ 1 ∷ []) ∷
    -- K10 "Squared length 65,536 has key 0."
    keys (p 0 0) (p 256 0) 65536 0 ∷
    -- K11 "Four equal points: polygons 0 0 0 twice."
    builds (contour 6 0 (four (v 3 3) (v 3 3) (v 3 3) (v 3 3)))
    (mesh (at 3 3 ∷ []) (poly (three 0 0 0) ∷ poly (three 0 0 0) ∷ []) (three none none none ∷ three none none none ∷ []) (pos 0)) ∷
    -- K12 "nvp 2 or 13: 1. x 32,767 passes, 32,768: 3."
    builds (contour 2 0 square) (reply 1 2) ∷
    builds (contour 13 0 square) (reply 1 13) ∷
    builds (contour 6 0 (high 32767))
    (mesh (three (at 0 0) (at 0 4) (at 32767 4)) (poly (three 0 1 2) ∷ []) (three none none none ∷ []) (minus 131068)) ∷
    builds (contour 6 0 (high 32768)) (reply 3 2) ∷
    -- ---- ours
    -- K3 once more, in buffers with two words more than they need: "Unused corners and their links are 65,535", "flags all 0", "what lies past it is
    -- unchanged", "the work buffer's first 4,096 + 128·V words are zero, the others untouched"
    leaves (contour 6 0 square) (room 2 (contour 6 0 square)) (three 0 1 4)
    (record {
      vertices = 0 ∷ 0 ∷ 0 ∷ 0 ∷ 0 ∷ 4 ∷ 4 ∷ 0 ∷ 4 ∷ 4 ∷ 0 ∷ 0 ∷ 9 ∷ 9 ∷ [];
      polygons = 0 ∷ 1 ∷ 2 ∷ 3 ∷ none ∷ none ∷ replicate 8 9;
      neighbours = replicate 6 none ++ replicate 8 9;
      regions = 1 ∷ 9 ∷ 9 ∷ 9 ∷ [];
      codes = 7 ∷ 9 ∷ 9 ∷ 9 ∷ [];
      flags = 0 ∷ 9 ∷ 9 ∷ 9 ∷ [];
      work = replicate 4608 0 ++ (9 ∷ 9 ∷ []);
    }) ∷
    -- replies 7 and 8: "leave the first six unchanged", and the work is wiped
    leaves (contour 6 0 reversed) (room 2 (contour 6 0 reversed)) (three 7 0 0)
    (record {
      vertices = replicate 14 9;
      polygons = replicate 14 9;
      neighbours = replicate 14 9;
      regions = replicate 4 9;
      codes = replicate 4 9;
      flags = replicate 4 9;
      work = replicate 4608 0 ++ (9 ∷ 9 ∷ []);
    }) ∷
    leaves (contour 3 0 tangled) (room 0 (contour 3 0 tangled)) (three 8 3 0)
    (record {
      vertices = replicate 15 9;
      polygons = replicate 9 9;
      neighbours = replicate 9 9;
      regions = replicate 3 9;
      codes = replicate 3 9;
      flags = replicate 3 9;
      work = replicate 4736 0;
    }) ∷
    -- reply 6 names the first buffer that is too short, and writes nothing
    leaves (contour 6 0 square) tight (three 6 4 0) tight ∷
    -- reply 2: a code is missing
    builds (record { nvp = 6; w = 4; h = 4; border = 0; lengths = 0 ∷ []; regions = 0 ∷ []; codes = []; numbers = [] }) (reply 2 0) ∷
    -- replies 3 and 4: a high z; a flag of 2; and a flag of 2 before a high x, which still is reply 3. Skipped contours are counted
    builds (contours 6 (of 1 7 (v 0 0 ∷ v 0 32768 ∷ []) ∷ [])) (reply 3 1) ∷
    builds (contours 6 (of 1 7 (v 0 0 ∷ []) ∷ of 1 7 (four 0 0 0 2 ∷ []) ∷ [])) (reply 4 1) ∷
    builds (contours 6 (of 1 7 (four 0 0 0 2 ∷ v 32768 0 ∷ []) ∷ [])) (reply 3 1) ∷
    -- reply 5: V above 65,535; contours of fewer than three vertices are not in it
    checks (record { nvp = 6; w = 4; h = 4; border = 0; lengths = 2 ∷ 65536 ∷ []; regions = []; codes = []; numbers = [] }) (refusal (TooManyVertices 65536)) ∷
    checks (record { nvp = 6; w = 4; h = 4; border = 0; lengths = 2 ∷ 65535 ∷ []; regions = []; codes = []; numbers = [] }) passed ∷
    -- reply 7 counts skipped contours
    builds (contours 6 (of 1 7 (v 0 0 ∷ v 0 4 ∷ []) ∷ of 1 7 reversed ∷ [])) (reply 7 1) ∷
    -- R3: a height of 3 is too much; and the bucket drops every bit above 32, and then keeps 12
    welds (one_place 0 ∷ one_place 3 ∷ []) (0 ∷ 1 ∷ []) ∷
    stands 32767 32767 2462 ∷
    -- R1: a diagonal that a side touches is stopped; here it is the diagonal's end that lies on the side
    builds (contour 3 0 (v 0 0 ∷ v 0 2 ∷ v 1 0 ∷ v 0 0 ∷ v 0 1 ∷ []))
    (mesh (four (at 0 0) (at 0 2) (at 1 0) (at 0 1)) (poly (three 1 2 0) ∷ poly (three 0 1 0) ∷ poly (three 0 0 3) ∷ [])
    (three none none none ∷ three none none none ∷ three none none none ∷ []) (minus 2)) ∷
    -- R1: a side with either end equal to i or j in x and z is passed over
    builds (contour 3 0 (v 0 1 ∷ v 0 0 ∷ v 0 1 ∷ v 1 0 ∷ v 2 0 ∷ v 0 0 ∷ []))
    (mesh (four (at 0 1) (at 0 0) (at 1 0) (at 2 0)) (poly (three 2 3 1) ∷ poly (three 0 2 1) ∷ poly (three 0 1 0) ∷ poly (three 0 0 1) ∷ [])
    (three none none 1 ∷ three none 0 3 ∷ three 3 none none ∷ three none 1 2 ∷ []) (minus 1)) ∷
    -- R1: the loose diagonal lets touching pass
    builds (contour 3 0 (v 0 1 ∷ v 0 1 ∷ v 1 0 ∷ v 0 0 ∷ v 0 0 ∷ []))
    (mesh (three (at 0 1) (at 1 0) (at 0 0)) (poly (three 0 0 1) ∷ poly (three 2 0 1) ∷ poly (three 1 2 2) ∷ [])
    (three none none 1 ∷ three none 0 none ∷ three none none none ∷ []) (minus 1)) ∷
    -- R1: where D(p,i,q) > 0, not both
    builds (contour 3 0 (four (v 0 0) (v 1 0) (v 0 1) (v 0 2)))
    (mesh (four (at 0 0) (at 1 0) (at 0 1) (at 0 2)) (poly (three 1 2 3) ∷ poly (three 0 1 3) ∷ [])
    (three none none 1 ∷ three none 0 none ∷ []) (pos 1)) ∷
    -- R2: after a cut the vertex before the gap is marked afresh, ..
    builds (contour 3 0 (v 1 0 ∷ v 0 1 ∷ v 0 0 ∷ v 1 1 ∷ v 0 0 ∷ []))
    (mesh (four (at 1 0) (at 0 1) (at 0 0) (at 1 1)) (poly (three 1 2 3) ∷ poly (three 0 1 3) ∷ poly (three 0 3 2) ∷ [])
    (three none 2 1 ∷ three none 0 2 ∷ three 1 0 none ∷ []) (pos 1)) ∷
    -- R2: .. and the vertex after it
    builds (contour 3 0 (v 0 1 ∷ v 1 0 ∷ v 1 1 ∷ v 0 0 ∷ v 0 1 ∷ []))
    (mesh (four (at 0 1) (at 1 0) (at 1 1) (at 0 0)) (poly (three 1 2 3) ∷ poly (three 0 1 3) ∷ poly (three 0 3 0) ∷ [])
    (three none none 1 ∷ three none 0 2 ∷ three 1 none none ∷ []) (pos 0)) ∷
    -- R2: the loose key goes from i to i+3. R6: three sides on one record: the newest free one is taken
    builds (contour 3 0 (four (v 0 0) (v 0 0) (v 0 0) (v 1 0)))
    (mesh (at 0 0 ∷ at 1 0 ∷ []) (poly (three 0 0 1) ∷ poly (three 0 0 1) ∷ [])
    (three none 1 1 ∷ three none 0 0 ∷ []) (pos 0)) ∷
    -- R3: any set flag marks the welded vertex
    builds (contour 3 0 (v 0 1 ∷ v 1 0 ∷ f 0 0 ∷ v 0 1 ∷ v 0 0 ∷ []))
    (cleared (at 0 1 ∷ at 1 0 ∷ []) (poly (three 0 0 1) ∷ poly (three 0 0 1) ∷ [])
    (three none 1 1 ∷ three none 0 0 ∷ []) (pos 0) (opened 2 (p 0 0) (p 0 1) (p 1 0) ∷ [])) ∷
    -- R4: from nvp 4 on
    builds (contour 4 0 (four (v 0 0) (v 0 4) (v 4 4) (v 4 0)))
    (mesh (four (at 0 0) (at 0 4) (at 4 4) (at 4 0)) (poly (four 0 1 2 3) ∷ [])
    (four none none none none ∷ []) (minus 32)) ∷
    -- R4: na + nb − 2 ≤ nvp
    builds (contour 4 0 (v 0 0 ∷ v 0 1 ∷ v 1 2 ∷ v 2 1 ∷ v 1 0 ∷ []))
    (mesh (at 0 0 ∷ at 0 1 ∷ at 1 2 ∷ at 2 1 ∷ at 1 0 ∷ []) (poly (three 4 0 1) ∷ poly (four 1 2 3 4) ∷ [])
    (three none none 1 ∷ four none none none 0 ∷ []) (minus 5)) ∷
    -- R4: both corners must turn left, and not only go straight on
    builds (contour 4 0 (four (v 0 0) (v 0 0) (v 0 0) (v 1 0)))
    (mesh (at 0 0 ∷ at 1 0 ∷ []) (poly (three 0 0 1) ∷ poly (three 0 0 1) ∷ [])
    (three none 1 1 ∷ three none 0 0 ∷ []) (pos 0)) ∷
    -- R4: two sides that run the same way are not joined
    builds (contour 5 0 (v 0 0 ∷ v 1 1 ∷ v 2 0 ∷ v 1 0 ∷ v 0 1 ∷ v 2 0 ∷ []))
    (mesh (at 0 0 ∷ at 1 1 ∷ at 2 0 ∷ at 1 0 ∷ at 0 1 ∷ []) (poly (four 0 1 2 3) ∷ poly (three 0 3 2) ∷ poly (three 3 4 2) ∷ [])
    (four none none none 1 ∷ three 0 2 none ∷ three none none 1 ∷ []) (minus 3)) ∷
    -- R4: of several shared sides the last of a
    builds (contour 12 0 (v 0 1 ∷ v 1 2 ∷ v 3 3 ∷ v 2 1 ∷ v 0 0 ∷ v 2 0 ∷ v 3 3 ∷ v 2 1 ∷ v 0 0 ∷ []))
    (mesh (at 0 1 ∷ at 1 2 ∷ at 3 3 ∷ at 2 1 ∷ at 0 0 ∷ at 2 0 ∷ []) (poly (0 ∷ 1 ∷ 2 ∷ 3 ∷ 4 ∷ 2 ∷ 3 ∷ 4 ∷ []) ∷ poly (three 4 5 2) ∷ [])
    ((none ∷ none ∷ none ∷ none ∷ 1 ∷ none ∷ none ∷ none ∷ []) ∷ three none none 0 ∷ []) (minus 4)) ∷
    -- R4: the sides chosen run the same way, and the pair is off, though another pair of sides would serve
    builds (contour 7 0 (v 2 1 ∷ v 0 0 ∷ v 0 1 ∷ v 1 2 ∷ v 3 1 ∷ v 0 0 ∷ v 0 1 ∷ v 1 2 ∷ []))
    (mesh (at 2 1 ∷ at 0 0 ∷ at 0 1 ∷ at 1 2 ∷ at 3 1 ∷ []) (poly (four 0 1 2 3) ∷ poly (1 ∷ 0 ∷ 2 ∷ 3 ∷ 4 ∷ []) ∷ poly (three 1 2 0) ∷ [])
    (four none none none none ∷ (2 ∷ 2 ∷ none ∷ none ∷ none ∷ []) ∷ three none 1 1 ∷ []) (minus 10)) ∷
    -- R4: of several such sides the first of b
    builds (contour 8 0 (v 0 0 ∷ v 0 1 ∷ v 1 2 ∷ v 2 2 ∷ v 0 0 ∷ v 3 0 ∷ v 1 2 ∷ v 0 0 ∷ v 2 2 ∷ v 3 0 ∷ []))
    (mesh (at 0 0 ∷ at 0 1 ∷ at 1 2 ∷ at 2 2 ∷ at 3 0 ∷ []) (poly (2 ∷ 0 ∷ 3 ∷ 4 ∷ 2 ∷ 3 ∷ 0 ∷ 1 ∷ []) ∷ poly (three 0 2 2) ∷ poly (three 2 0 2) ∷ [])
    ((2 ∷ none ∷ none ∷ none ∷ none ∷ none ∷ none ∷ none ∷ []) ∷ three 2 none none ∷ three 1 0 none ∷ []) (minus 3)) ∷
    -- R4: the last polygon moves to b's place
    builds (contour 4 0 (v 0 0 ∷ v 0 0 ∷ v 0 1 ∷ v 2 0 ∷ v 1 0 ∷ v 0 0 ∷ []))
    (mesh (four (at 0 0) (at 0 1) (at 2 0) (at 1 0)) (poly (four 0 1 2 3) ∷ poly (three 0 3 0) ∷ poly (three 0 0 3) ∷ [])
    (four none none none 2 ∷ three 2 none none ∷ three none 0 1 ∷ []) (minus 2)) ∷
    -- R5: a hole that closes, between two regions
    builds (contours 6 (of 1 7 (three (v 0 0) (v 0 2) (f 1 1)) ∷ of 1 8 (three (v 0 2) (v 2 2) (v 1 1)) ∷ of 2 7 (three (v 2 2) (v 2 0) (v 1 1)) ∷ of 2 7 (three (v 2 0) (v 0 0) (v 1 1)) ∷ []))
    (cleared (four (at 0 0) (at 0 2) (at 2 2) (at 2 0)) (record { corners = four 3 0 1 2; region = 0; code = 7 } ∷ [])
    (four none none none none ∷ []) (minus 8) (shut 2 (p 1 1) (p 2 0) (p 2 0) ∷ [])) ∷
    -- R5: two sides that stay are too few
    builds (contour 3 0 (four (v 0 0) (v 0 0) (v 0 0) (f 0 1)))
    (mesh (at 0 0 ∷ at 0 1 ∷ []) (poly (three 0 0 1) ∷ poly (three 0 0 1) ∷ [])
    (three none 1 1 ∷ three none 0 0 ∷ []) (pos 0)) ∷
    -- R5: a polygon holds the vertex twice
    builds (contour 3 0 (v 0 0 ∷ v 0 0 ∷ v 1 0 ∷ f 0 0 ∷ v 1 0 ∷ v 1 0 ∷ []))
    (mesh (at 0 0 ∷ at 1 0 ∷ []) (poly (three 0 0 1) ∷ poly (three 1 0 1) ∷ poly (three 1 1 0) ∷ poly (three 0 1 1) ∷ [])
    (three none 3 3 ∷ three 2 2 none ∷ three none 1 1 ∷ three 0 none 0 ∷ []) (pos 0)) ∷
    -- R5: the walk leaves sides over, and the vertex stays
    builds (contour 3 0 (f 0 1 ∷ v 0 2 ∷ v 1 0 ∷ v 1 0 ∷ v 0 0 ∷ []))
    (mesh (four (at 0 1) (at 0 2) (at 1 0) (at 0 0)) (poly (three 0 1 2) ∷ poly (three 2 3 0) ∷ poly (three 0 2 2) ∷ [])
    (three none none 2 ∷ three none none 2 ∷ three 0 none 1 ∷ []) (minus 2)) ∷
    -- R5: two removals: after the first the same number is tried again; the walk goes front before back and round again
    builds (contour 3 0 (v 0 0 ∷ v 0 0 ∷ v 0 1 ∷ f 1 0 ∷ f 0 1 ∷ v 2 0 ∷ []))
    (cleared (at 0 0 ∷ at 2 0 ∷ []) (poly (three 0 0 1) ∷ [])
    (three none none none ∷ []) (pos 0) (opened 1 (p 0 1) (p 2 0) (p 0 0) ∷ shut 1 (p 1 0) (p 0 0) (p 0 0) ∷ [])) ∷
    -- R5: points carry the code of the side that brought them; a merge keeps a's code
    builds (contours 4 (of 1 1 (three (v 0 0) (v 2 2) (v 0 1)) ∷ of 1 2 (v 2 0 ∷ v 1 0 ∷ v 0 1 ∷ f 2 2 ∷ v 0 3 ∷ []) ∷ []))
    (cleared (at 0 0 ∷ at 0 1 ∷ at 2 0 ∷ at 1 0 ∷ at 0 3 ∷ []) (record { corners = three 1 0 4; region = 1; code = 1 } ∷ record { corners = four 1 4 2 3; region = 1; code = 1 } ∷ [])
    (three none none 1 ∷ four 0 none none none ∷ []) (minus 5) (opened 1 (p 2 2) (p 0 3) (p 0 0) ∷ [])) ∷
    -- R5: a triangle of unlike regions, and a merge of unlike regions, have region 0
    builds (contours 4 (of 1 7 (four (v 1 0) (v 0 0) (v 0 1) (v 1 1)) ∷ of 2 7 (three (f 1 1) (v 0 1) (v 1 2)) ∷ []))
    (cleared (four (at 1 0) (at 0 0) (at 0 1) (at 1 2)) (record { corners = four 0 1 2 3; region = 0; code = 7 } ∷ [])
    (four none none none none ∷ []) (minus 3) (opened 3 (p 1 1) (p 1 0) (p 1 2) ∷ [])) ∷
    -- R6: a side that meets its own polygon stays open
    builds (contour 3 0 (four (v 0 1) (v 1 0) (v 0 0) (v 0 0)))
    (mesh (three (at 0 1) (at 1 0) (at 0 0)) (poly (three 2 0 1) ∷ poly (three 1 2 2) ∷ [])
    (three none none none ∷ three none none none ∷ []) (minus 1)) ∷
    -- R7: a side on z = h = 0 is tried for z = h first
    builds (job_of 3 1 0 1 (of 1 7 (three (v 0 0) (v 1 0) (v 0 0)) ∷ []))
    (mesh (at 0 0 ∷ at 1 0 ∷ []) (poly (three 0 1 0) ∷ [])
    (three 65537 65537 65536 ∷ []) (pos 0)) ∷
    -- 8: the hole of vertex 3 has no ear
    builds (contour 3 0 tangled) (reply 8 3) ∷
    -- the cell size: one inch, and one millimetre
    measures (Inches unit) per_inch ∷
    measures (Millimetres unit) unit ∷
    -- the sheet: document 01's sheet
    prints "unit\tmm\ncell\t500\t250\nnvp\t6\ngrid\t4\t4\t0\ncontour\t1\t7\t4\nv\t0\t0\t0\t0\nv\t0\t0\t4\t0\nv\t4\t0\t4\t0\nv\t4\t0\t0\t0\n"
    "unit\tmm\ncell\t500\t250\nmesh\t4\t1\t-32\nv\t0\t0\t0\nv\t0\t0\t4\nv\t4\t0\t4\nv\t4\t0\t0\np\t1\t7\t0\t1\t2\t3\nn\t65535\t65535\t65535\t65535\n" ∷
    -- the sheet: no contours, inches, the largest cells
    prints "unit\tin\ncell\t16777216\t16777216\nnvp\t3\ngrid\t65535\t0\t9\n"
    "unit\tin\ncell\t16777216\t16777216\nmesh\t0\t0\t0\n" ∷
    -- the sheet: 21: nothing; no LF; CR
    prints ""
    "refused\t21\t1\n" ∷
    prints "unit\tmm"
    "refused\t21\t1\n" ∷
    prints "unit\tmm\r\n"
    "refused\t21\t1\n" ∷
    -- the sheet: 22: a missing line is the line after the last
    prints "unit\tmm\n"
    "refused\t22\t2\n" ∷
    -- the sheet: 22: cells of 0 and of 16,777,217 thousandths
    prints "unit\tmm\ncell\t1\t0\n"
    "refused\t22\t2\n" ∷
    prints "unit\tmm\ncell\t16777217\t1\n"
    "refused\t22\t2\n" ∷
    -- the sheet: 22: a leading zero; 65,536; one number too many
    prints "unit\tmm\ncell\t1\t1\nnvp\t06\n"
    "refused\t22\t3\n" ∷
    prints "unit\tmm\ncell\t1\t1\nnvp\t65536\n"
    "refused\t22\t3\n" ∷
    prints "unit\tmm\ncell\t1\t1\nnvp\t6\t6\n"
    "refused\t22\t3\n" ∷
    -- the sheet: 22: an area code of 256; a vertex too few; a vertex too many
    prints "unit\tmm\ncell\t1\t1\nnvp\t3\ngrid\t0\t0\t0\ncontour\t0\t256\t0\n"
    "refused\t22\t5\n" ∷
    prints "unit\tmm\ncell\t1\t1\nnvp\t3\ngrid\t0\t0\t0\ncontour\t0\t255\t1\n"
    "refused\t22\t6\n" ∷
    prints "unit\tmm\ncell\t1\t1\nnvp\t3\ngrid\t0\t0\t0\ncontour\t0\t0\t0\nv\t0\t0\t0\t0\n"
    "refused\t22\t6\n" ∷
    -- the sheet: 24: 97 vertices are declared; 22 comes before it on one line
    prints "unit\tmm\ncell\t1\t1\nnvp\t3\ngrid\t0\t0\t0\ncontour\t0\t0\t97\n"
    "refused\t24\t5\n" ∷
    prints "unit\tmm\ncell\t1\t1\nnvp\t3\ngrid\t0\t0\t0\ncontour\t0\t256\t97\n"
    "refused\t22\t5\n" ∷
    -- the sheet: a refused build: nvp 2, and the square reversed
    prints "unit\tmm\ncell\t1\t1\nnvp\t2\ngrid\t0\t0\t0\n"
    "refused\t1\t2\n" ∷
    prints "unit\tmm\ncell\t1\t1\nnvp\t3\ngrid\t0\t0\t0\ncontour\t1\t7\t4\nv\t4\t0\t0\t0\nv\t4\t0\t4\t0\nv\t0\t0\t4\t0\nv\t0\t0\t0\t0\n"
    "refused\t7\t0\n" ∷
    -- far sides: the side is beyond the diagonal's box in x, above and below it, in z, above and below it, and by one cell at the limit
    parts (p 0 0) (p 4 4) (p 5 0) (p 9 9) (three true true false) ∷
    parts (p 9 9) (p 5 0) (p 4 4) (p 0 0) (three true true false) ∷
    parts (p 0 4) (p 4 0) (p 0 5) (p 4 9) (three true true false) ∷
    parts (p 0 5) (p 4 9) (p 0 4) (p 4 0) (three true true false) ∷
    parts (p 0 0) (p 32766 32767) (p 32767 0) (p 32767 32767) (three true true false) ∷
    -- far sides: boxes that share a corner meet, and so do these segments; one end, or one end a way, beyond the box isn't enough
    parts (p 0 0) (p 4 4) (p 4 4) (p 9 9) (three false false true) ∷
    parts (p 0 0) (p 4 4) (p 5 0) (p 0 5) (three false false true) ∷
    parts (p 0 0) (p 4 4) (p 5 3) (p 3 5) (three false false true) ∷
    -- far sides: a segment of no length is touched from outside its box, whichever of the two it is
    parts (p 0 0) (p 0 1) (p 1 0) (p 1 0) (three true false true) ∷
    parts (p 1 0) (p 1 0) (p 0 0) (p 0 1) (three true false true) ∷
    -- turned: to its third place; between the doubled corner's two; at a place past the end it is as it was
    turns (has (minus 32) trim) 2 (p 0 4 ∷ p 4 4 ∷ p 4 0 ∷ p 0 0 ∷ p 0 2 ∷ []) ∷
    turns (has (minus 32) spiked) 1 (p 0 0 ∷ p 0 4 ∷ p 4 4 ∷ p 6 4 ∷ p 4 4 ∷ p 4 0 ∷ p 0 0 ∷ []) ∷
    turns (has (minus 32) trim) 6 trim ∷
    -- reversed: the sign changes; a spike and a doubled corner change nothing; two triangles that cross have 0 both ways
    reverses (has (minus 32) trim) (p 4 0 ∷ p 4 4 ∷ p 0 4 ∷ p 0 2 ∷ p 0 0 ∷ []) ∷
    reverses (has (minus 32) spiked) (p 4 0 ∷ p 4 4 ∷ p 6 4 ∷ p 4 4 ∷ p 0 4 ∷ p 0 0 ∷ p 0 0 ∷ []) ∷
    reverses (has (pos 0) (four (p 0 0) (p 4 0) (p 0 4) (p 4 4))) (four (p 4 4) (p 0 4) (p 4 0) (p 0 0)) ∷
    -- cut: in two; in the other order; between neighbours, also round the end; off the spike, whose two places are one point; a list of two
    cuts trim 0 3 (has (minus 16) (four (p 0 0) (p 0 2) (p 0 4) (p 4 4))) (has (minus 16) (three (p 4 4) (p 4 0) (p 0 0))) ∷
    cuts trim 3 1 (has (minus 24) (four (p 4 4) (p 4 0) (p 0 0) (p 0 2))) (has (minus 8) (three (p 0 2) (p 0 4) (p 4 4))) ∷
    cuts trim 0 1 (has (pos 0) (p 0 0 ∷ p 0 2 ∷ [])) (has (minus 32) (p 0 2 ∷ p 0 4 ∷ p 4 4 ∷ p 4 0 ∷ p 0 0 ∷ [])) ∷
    cuts trim 4 0 (has (pos 0) (p 4 0 ∷ p 0 0 ∷ [])) (has (minus 32) trim) ∷
    cuts spiked 3 5 (has (pos 0) (three (p 4 4) (p 6 4) (p 4 4))) (has (minus 32) (p 4 4 ∷ p 4 0 ∷ p 0 0 ∷ p 0 0 ∷ p 0 4 ∷ p 4 4 ∷ [])) ∷
    cuts (p 0 0 ∷ p 0 4 ∷ []) 0 1 (has (pos 0) (p 0 0 ∷ p 0 4 ∷ [])) (has (pos 0) (p 0 4 ∷ p 0 0 ∷ [])) ∷
    []

-- each row holds
pub all_hold : AllHold examples
unfolding rules numbers_of seen ended room outline Holds mul of_bits
all_hold =
    refl & refl & refl & refl & refl & refl & refl & refl & refl & refl & refl & refl & refl & refl & refl & refl & refl & refl & refl & refl &
    refl & refl & refl & refl & refl & refl & refl & refl & refl & refl & refl & refl & refl & refl & refl & refl & refl & refl & refl & refl &
    refl & refl & refl & refl & refl & refl & refl & refl & refl & refl & refl & refl & refl & refl & refl & refl & refl & refl & refl & refl &
    refl & refl & refl & refl & refl & refl & refl & refl & refl & refl & refl & refl & refl & refl & refl & refl & refl & refl & refl & refl &
    refl & refl & refl & refl & refl & refl & refl & refl & refl & refl & refl & refl & refl & refl & refl & refl & refl & end
