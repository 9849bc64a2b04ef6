-- A mesh that is handed in: what it is, what is read of it, and refusals 40 to 42, which come first in every request that takes one. Definitions; at the end
-- what is proved of them, in crate `laws`.
use Rattle.std.specs.Prelude.{◌≡◌, Bool, true, false, not, ◌&&◌, ◌||◌, cond, ◌≢◌, ◌↔◌, List, [], ℕ, ◌+◌, ◌*◌, ◌/◌, ◌≤◌, ◌<◌, eqb, leb, ltb, length, get_or, Option, Some, None, Result, Ok, Err, ⊤}
use Rattle.mem.specs.Loops.{over}
use Rattle.rules.specs.Lists.{when, or_else}
use Rattle.rules.specs.Plane.{on_plane, InGrid}
use Rattle.rules.specs.Weld.{no_vertex}
use Rattle.rules.specs.Mesh.{Polygon, polygon_at, side_start, side_end}
use Rattle.rules.specs.Links.{none}
use Rattle.rules.specs.Checks.{Lent, vertex_stride, is_high}
use Rattle.rules.specs.Exits.{Stored, decoded}
use Rattle.rules.specs.declared.Fault.{Fault}
use Rattle.rules.specs.declared.Fault.TheVariants.{BadBuffers, BadCorners, BadLinks}

-- ---- what is handed in, and what is read of it

-- "Given vertices, polygons, links, .. nvp". The lists are the lent numbers, whole: nothing may lie past the mesh
pub record Handed : Type 0 where
  pub nvp : ℕ
  pub vertices : List ℕ
  pub polygons : List ℕ
  pub links : List ℕ

-- how many vertices there are, of `vertex_stride` words each, and how many polygons, of nvp words each
unfoldable pub vertex_count : Handed → ℕ
vertex_count m = length m.vertices / vertex_stride

unfoldable pub polygon_count : Handed → ℕ
polygon_count m = length m.polygons / m.nvp

-- the mesh that the numbers are, read as a build's buffers are read
abbrev pub buffers_of : Handed → Lent
buffers_of m = record { vertices = m.vertices; polygons = m.polygons; neighbours = m.links; regions = []; codes = []; flags = []; work = [] }

unfoldable pub mesh_in : Handed → Stored
mesh_in m = decoded m.nvp (polygon_count m) (vertex_count m) (buffers_of m)

-- word k of polygon i's corners, and of its links, the unused ones too
unfoldable pub corner_word : Handed → ℕ → ℕ → ℕ
corner_word m i k = get_or m.polygons (i * m.nvp + k) 0

unfoldable pub link_word : Handed → ℕ → ℕ → ℕ
link_word m i k = get_or m.links (i * m.nvp + k) 0

-- the corners of polygon i of a stored mesh, and the link of its side j
abbrev pub corners_at : Stored → ℕ → List ℕ
corners_at s i = (polygon_at s.polygons i).corners

abbrev pub link_at : List (List ℕ) → ℕ → ℕ → ℕ
link_at ls i j = get_or (get_or ls i []) j none

-- ---- tests on all numbers from a up to n, and the first polygon at fault

unfoldable pub all_of : (ℕ → Bool) → ℕ → ℕ → Bool
all_of test a n = over true ◌&&◌ test a n

unfoldable pub any_of : (ℕ → Bool) → ℕ → ℕ → Bool
any_of test a n = over false ◌||◌ test a n

unfoldable pub first_fault : (ℕ → Bool) → ℕ → Option ℕ
first_fault good n = over None or_else (λ i. when (not (good i)) i) 0 n

-- ---- the refusals' tests, in their order

-- 40: "buffers that don't agree in count": whole vertices, whole polygons, and a link for each word of a polygon
unfoldable pub blocks_agree : Handed → Bool
blocks_agree m =
    eqb (length m.vertices) (vertex_count m * vertex_stride)
    && (eqb (length m.polygons) (polygon_count m * m.nvp) && eqb (length m.links) (length m.polygons))

-- "or nvp, x or z outside 01's limits": nvp 3 to 12; x and z of every vertex, used or not, at most 32,767
unfoldable pub within_limits : Handed → Bool
within_limits m =
    leb 3 m.nvp && (leb m.nvp 12 && all_of (λ k. not (is_high (get_or (mesh_in m).vertices k no_vertex))) 0 (vertex_count m))

-- "or over 65,535 vertices or polygons"
unfoldable pub are_few : ℕ → ℕ → Bool
are_few vertices polygons = leb vertices 65535 && leb polygons 65535

unfoldable pub buffers_hold : Handed → Bool
buffers_hold m = blocks_agree m && (are_few (vertex_count m) (polygon_count m) && within_limits m)

-- 41: "all corners are in range, each polygon has 3 to nvp and 65,535 after them". Corners are what stands before the first 65,535, and never more than nvp
unfoldable pub corners_hold : Handed → ℕ → Bool
corners_hold m i =
    let n = length (corners_at (mesh_in m) i) in
    leb 3 n && (all_of (λ k. ltb (corner_word m i k) (vertex_count m)) 0 n && all_of (λ k. eqb (corner_word m i k) none) n m.nvp)

-- "a side b to a that names it back": side q of a polygon with corners cs and links ls runs from b to a, and its link is i
unfoldable pub names_back : List ℕ → List ℕ → ℕ → ℕ → ℕ → ℕ → Bool
names_back cs ls a b i q = eqb (side_start cs q) b && (eqb (side_end cs q) a && eqb (get_or ls q none) i)

-- the most that the link of an open side may be: R7's last portal
abbrev pub last_portal : ℕ
last_portal = 65539

-- 42: "each link of a side a to b names another polygon with a side b to a that names it back". "A link above 65,539, or one to no polygon of the mesh"
-- are faults; 65,535 to 65,539 say that the side is open
unfoldable pub link_holds : Stored → ℕ → ℕ → Bool
link_holds s i j =
    let a = side_start (corners_at s i) j in
    let b = side_end (corners_at s i) j in
    let l = link_at s.links i j in
    cond (ltb l none)
    (ltb l (length s.polygons) && (not (eqb l i) && any_of (names_back (corners_at s l) (get_or s.links l []) a b i) 0 (length (corners_at s l))))
    (leb l last_portal)

-- "and a link past the last corner other than 65,535"
unfoldable pub links_hold : Handed → ℕ → Bool
links_hold m i =
    let n = length (corners_at (mesh_in m) i) in
    all_of (link_holds (mesh_in m) i) 0 n && all_of (λ k. eqb (link_word m i k) none) n m.nvp

-- ---- 40 to 42

-- the first polygon at fault, or what the rest says
unfoldable pub or_fault : (ℕ → Fault) → Option ℕ → Result ⊤ Fault → Result ⊤ Fault
or_fault fault (Some i) rest = Err (fault i)
or_fault fault None rest = rest

-- "Refusals, in this order: 40 ..; 41 corners, 42 links, .. each with the first polygon at fault": each is looked for in the whole mesh before the next.
-- "Later asks on meshes give 40 to 42 first"
unfoldable pub soundness : Handed → Result ⊤ Fault
soundness m = elim (buffers_hold m) [
  | true ↦ or_fault BadCorners (first_fault (corners_hold m) (polygon_count m)) (or_fault BadLinks (first_fault (links_hold m) (polygon_count m)) (Ok tt))
  | false ↦ Err BadBuffers
]

-- a fault's number, and its second number: "with 0", "with the first polygon at fault"
unfoldable pub fault_number : Fault → ℕ
fault_number BadBuffers = 40
fault_number (BadCorners i) = 41
fault_number (BadLinks i) = 42

unfoldable pub fault_second : Fault → ℕ
fault_second BadBuffers = 0
fault_second (BadCorners i) = i
fault_second (BadLinks i) = i

-- ---- the sentences, with no order and no test: a mesh is sound exactly if they hold. Proved in crate `laws`: `SoundExactly`

pub record GoodBuffers (m : Handed) : Type 0 where
  pub vertices : length m.vertices ≡ vertex_count m * vertex_stride
  pub polygons : length m.polygons ≡ polygon_count m * m.nvp
  pub links : length m.links ≡ length m.polygons
  pub few_vertices : vertex_count m ≤ 65535
  pub few_polygons : polygon_count m ≤ 65535
  pub nvp_low : 3 ≤ m.nvp
  pub nvp_high : m.nvp ≤ 12
  pub grid : (k : ℕ) → k < vertex_count m → InGrid (on_plane (get_or (mesh_in m).vertices k no_vertex))

-- of polygon i
pub record GoodCorners (m : Handed) (i : ℕ) : Type 0 where
  pub long : 3 ≤ length (corners_at (mesh_in m) i)
  pub inside : (k : ℕ) → k < length (corners_at (mesh_in m) i) → corner_word m i k < vertex_count m
  pub after : (k : ℕ) → length (corners_at (mesh_in m) i) ≤ k → k < m.nvp → corner_word m i k ≡ none

-- the link of side j of polygon i, of polygons ps with links ls: it names another polygon, with a side that runs the other way and names it back
pub record NamedBack (ps : List Polygon) (ls : List (List ℕ)) (i j : ℕ) : Type 0 where
  pub side : ℕ
  pub there : link_at ls i j < length ps
  pub other : link_at ls i j ≢ i
  pub within : side < length (polygon_at ps (link_at ls i j)).corners
  pub starts : side_start (polygon_at ps (link_at ls i j)).corners side ≡ side_end (polygon_at ps i).corners j
  pub ends : side_end (polygon_at ps (link_at ls i j)).corners side ≡ side_start (polygon_at ps i).corners j
  pub back : link_at ls (link_at ls i j) side ≡ i

pub record GoodLinks (m : Handed) (i : ℕ) : Type 0 where
  pub named : (j : ℕ) → j < length (corners_at (mesh_in m) i) → link_at (mesh_in m).links i j < none → NamedBack (mesh_in m).polygons (mesh_in m).links i j
  pub most : (j : ℕ) → j < length (corners_at (mesh_in m) i) → link_at (mesh_in m).links i j ≤ last_portal
  pub after : (k : ℕ) → length (corners_at (mesh_in m) i) ≤ k → k < m.nvp → link_word m i k ≡ none

pub record Consistent (m : Handed) : Type 0 where
  pub buffers : GoodBuffers m
  pub corners : (i : ℕ) → i < polygon_count m → GoodCorners m i
  pub links : (i : ℕ) → i < polygon_count m → GoodLinks m i

abbrev pub SoundExactly : Type 0
SoundExactly = (m : Handed) → (soundness m ≡ (Ok tt)) ↔ Consistent m
