-- R5: marked vertices are removed, and the holes filled. Definitions only.
use Rattle.std.specs.Prelude.{Bool, true, false, ◌&&◌, ◌||◌, cond, List, [], ◌∷◌, ◌++◌, map, ℕ, zero, suc, ◌+◌, ◌-◌, eqb, leb, ltb, length, take, get_or}
use Rattle.mem.specs.Loops.{over, times}
use Rattle.rules.specs.Lists.{prev, without, swap_remove, count}
use Rattle.rules.specs.Ears.{Ears, done, stuck, triangulate}
use Rattle.rules.specs.Mesh.{Polygon, no_polygon, polygon_at, Mesh, side_start, side_end, place_of}
use Rattle.rules.specs.Merge.{merge_all}
use Rattle.rules.specs.declared.Point.{Point}
use Rattle.rules.specs.declared.Vertex.{Vertex}
use Rattle.rules.specs.declared.Side.{Side}
use Rattle.rules.specs.declared.ChainPoint.{ChainPoint}

abbrev pub no_side : Side
no_side = record { start = 0; end = 0; region = 0; code = 0 }

abbrev pub no_point : ChainPoint
no_point = record { vertex = 0; region = 0; code = 0 }

-- ---- the polygons that hold the vertex go, and give their sides

-- how often a polygon holds the vertex
unfoldable pub holds : ℕ → Polygon → ℕ
holds rem p = count rem p.corners

-- the side of p from the vertex a to the vertex b, where it doesn't touch the vertex that goes
unfoldable pub untouched_side : ℕ → Polygon → ℕ → ℕ → List Side
untouched_side rem p a b =
    cond (eqb a rem || eqb b rem) [] (record { start = a; end = b; region = p.region; code = p.code } ∷ [])

-- the side that ends at corner j
unfoldable pub side_into : ℕ → Polygon → ℕ → List Side
side_into rem p j = untouched_side rem p (get_or p.corners (prev j (length p.corners)) 0) (get_or p.corners j 0)

-- "gives its untouched sides, first the one from its last corner to its first, then from its first on"
unfoldable pub untouched : ℕ → Polygon → List Side
untouched rem p = over [] ◌++◌ (side_into rem p) 0 (length p.corners)

-- what is left of the polygons, the sides that the others gave, and the place looked at next
pub record TakingOut : Type 0 where
  pub polygons : List Polygon
  pub sides : List Side
  pub at : ℕ

-- "One that holds the vertex gives its untouched sides .. and goes; the last polygon takes its place and is looked at next."
unfoldable pub take_one : ℕ → TakingOut → TakingOut
take_one rem s =
    let p = polygon_at s.polygons s.at in
    elim (ltb 0 (holds rem p)) [
      | true ↦ record { polygons = swap_remove no_polygon s.polygons s.at; sides = s.sides ++ untouched rem p; at = s.at }
      | false ↦ record { polygons = s.polygons; sides = s.sides; at = s.at + 1 }
    ]

-- "Polygons are looked at from 0 up.": each once, and so as often as there are polygons (`Fuel`)
unfoldable pub taken_out : ℕ → List Polygon → TakingOut
taken_out rem ps = times (take_one rem) (length ps) (record { polygons = ps; sides = []; at = 0 })

-- "Higher vertex numbers drop by 1."
unfoldable pub dropped : ℕ → ℕ → ℕ
dropped rem v = cond (ltb rem v) (v - 1) v

unfoldable pub dropped_in : ℕ → Polygon → Polygon
dropped_in rem p = record { corners = map (dropped rem) p.corners; region = p.region; code = p.code }

unfoldable pub dropped_side : ℕ → Side → Side
dropped_side rem s = record { start = dropped rem s.start; end = dropped rem s.end; region = s.region; code = s.code }

-- what stays of the polygons, and the sides that the others gave, in the numbers that hold once the vertex has gone
unfoldable pub polygons_left : ℕ → List Polygon → List Polygon
polygons_left rem ps = map (dropped_in rem) (taken_out rem ps).polygons

unfoldable pub sides_left : ℕ → List Polygon → List Side
sides_left rem ps = map (dropped_side rem) (taken_out rem ps).sides

-- ---- the walk

-- the chain, front to back; the sides not yet used; and the place tried next
pub record Walk : Type 0 where
  pub chain : List ChainPoint
  pub rest : List Side
  pub at : ℕ

abbrev pub first_of : List ChainPoint → ChainPoint
first_of chain = get_or chain 0 no_point

abbrev pub last_of : List ChainPoint → ChainPoint
last_of chain = get_or chain (length chain - 1) no_point

-- "A point carries the region and code of the side that brought it"
unfoldable pub brought_by : Side → ℕ → ChainPoint
brought_by s v = record { vertex = v; region = s.region; code = s.code }

-- where a side fits: it ends at the chain's first point, or begins at its last, or neither
pub data Fit : Type 0 where
  front back neither : Fit

-- "front before back"
unfoldable pub fit_of : List ChainPoint → Side → Fit
fit_of chain s = cond (eqb s.end (first_of chain).vertex) front (cond (eqb s.start (last_of chain).vertex) back neither)

-- the side s, at the place tried, is used in front or behind: "a used side is replaced by the last and that place is tried again"; or it is passed
unfoldable pub walk_by : Fit → Side → Walk → Walk
walk_by front s w = record { chain = brought_by s s.start ∷ w.chain; rest = swap_remove no_side w.rest w.at; at = w.at }
walk_by back s w = record { chain = w.chain ++ (brought_by s s.end ∷ []); rest = swap_remove no_side w.rest w.at; at = w.at }
walk_by neither s w = record { chain = w.chain; rest = w.rest; at = w.at + 1 }

unfoldable pub walk_one : Walk → Walk
walk_one w = let s = get_or w.rest w.at no_side in walk_by (fit_of w.chain s) s w

-- "goes over the sides": once, each side tried once, and so as often as there are sides (`Fuel`)
unfoldable pub walk_once : Walk → Walk
walk_once w = times walk_one (length w.rest) (record { chain = w.chain; rest = w.rest; at = 0 })

-- "The walk starts with the first side's first point", and "the starting point [carries] those of the first side"
unfoldable pub walk_start : List Side → Walk
walk_start sides = let s = get_or sides 0 no_side in record { chain = brought_by s s.start ∷ []; rest = sides; at = 0 }

-- "again and again": as often as there are sides, after which once more would change nothing (`Fuel`)
unfoldable pub walk : List Side → Walk
walk sides = times walk_once (length sides) (walk_start sides)

-- ---- the test

-- "every polygon holds it at most once"
unfoldable pub held_once : ℕ → List Polygon → Bool
held_once rem ps = over true ◌&&◌ (λ i. leb (holds rem (polygon_at ps i)) 1) 0 (length ps)

-- the other end of the side from a to b, if the side touches the vertex
unfoldable pub other_end : ℕ → ℕ → ℕ → List ℕ
other_end rem a b = cond (eqb a rem) (b ∷ []) (cond (eqb b rem) (a ∷ []) [])

-- the neighbours of the vertex, each as often as it is met
unfoldable pub neighbours_in : ℕ → List ℕ → List ℕ
neighbours_in rem cs = over [] ◌++◌ (λ j. other_end rem (side_start cs j) (side_end cs j)) 0 (length cs)

unfoldable pub neighbours : ℕ → List Polygon → List ℕ
neighbours rem ps = over [] ◌++◌ (λ i. neighbours_in rem (polygon_at ps i).corners) 0 (length ps)

-- how many neighbours are "met once"
unfoldable pub met_once : List ℕ → ℕ
met_once ns = over 0 ◌+◌ (λ k. cond (eqb (count (get_or ns k 0) ns) 1) 1 0) 0 (length ns)

-- "One goes exactly if: every polygon holds it at most once; more than 2 sides stay that don't touch it; at most 2 neighbours of it are met once; and
-- the walk uses all those sides." The sides that stay are those that the polygons which hold it give, and the walk is the removal's own.
-- Rust's `can_remove_vertex`
unfoldable pub can_remove : ℕ → List Polygon → Bool
can_remove rem ps =
    let sides = sides_left rem ps in
    held_once rem ps
    && (ltb 2 (length sides)
    && (leb (met_once (neighbours rem ps)) 2
    && eqb (length (walk sides).rest) 0))

-- ---- the removal

-- "If at the end the chain's last point has the number of the chain's first, which need not be the point it started with, the hole has closed"
unfoldable pub is_closed : List ChainPoint → Bool
is_closed chain = eqb (last_of chain).vertex (first_of chain).vertex

-- "and the last entry is dropped; otherwise it is open"
unfoldable pub hole_of : List ChainPoint → List ChainPoint
hole_of chain = cond (is_closed chain) (take (length chain - 1) chain) chain

-- where the points of a hole stand
unfoldable pub places_of : List Vertex → List ChainPoint → List Point
places_of vs hole = map (λ c. place_of vs c.vertex) hole

-- "a triangle takes its first point's area code and its region if all three agree, else 0"
unfoldable pub hole_triangle : List ChainPoint → List ℕ → Polygon
hole_triangle hole t =
    let a = get_or hole (get_or t 0 0) no_point in
    let b = get_or hole (get_or t 1 0) no_point in
    let c = get_or hole (get_or t 2 0) no_point in
    record {
      corners = a.vertex ∷ b.vertex ∷ c.vertex ∷ [];
      region = cond (eqb a.region b.region && eqb b.region c.region) a.region 0;
      code = a.code;
    }

-- the log of one removal: the vertex's number when it was tried and its place, whether the hole closed, and the places of the chain's first and last point
pub record Removal : Type 0 where
  pub vertex : ℕ
  pub removed : Point
  pub closed : Bool
  pub first : Point
  pub last : Point

-- what removing a vertex comes to: the mesh after it and its log; or no ear to cut in the hole
pub data Removed : Type 0 where
  gone : Mesh → Removal → Removed
  no_ears : Removed

-- "Then R2 and R4, the polygons going to the end of the mesh": vs, ms and ps are what is left of the mesh
unfoldable pub fill_hole : ℕ → List Vertex → List ℕ → List Polygon → List ChainPoint → Removal → Ears → Removed
fill_hole nvp vs ms ps hole log (stuck k) = no_ears
fill_hole nvp vs ms ps hole log (done ts) =
    gone (record { vertices = vs; marks = ms; polygons = ps ++ merge_all vs nvp (map (hole_triangle hole) ts) }) log

-- the vertex goes, and with it the polygons that hold it. Rust's `remove_vertex`
unfoldable pub remove_vertex : ℕ → ℕ → Mesh → Removed
remove_vertex nvp rem m =
    let chain = (walk (sides_left rem m.polygons)).chain in
    let hole = hole_of chain in
    let vs = without m.vertices rem in
    fill_hole nvp vs (without m.marks rem) (polygons_left rem m.polygons) hole
    (record {
      vertex = rem;
      removed = place_of m.vertices rem;
      closed = is_closed chain;
      first = place_of vs (first_of chain).vertex;
      last = place_of vs (last_of chain).vertex;
    })
    (triangulate (places_of vs hole))

-- ---- all removals

-- the mesh once all are tried, with the log; or the vertex whose hole has no ear
pub data Removals : Type 0 where
  removed : Mesh → List Removal → Removals
  stuck_at : ℕ → Removals

-- the vertex is marked and goes
unfoldable pub goes : ℕ → Mesh → Bool
goes i m = eqb (get_or m.marks i 0) 1 && can_remove i m.polygons

-- "Marked vertices from 0 up; after a removal the same number is tried again." Vertex i is tried; i + f is how many vertices there are (`Fuel`)
unfoldable pub remove_from : ℕ → ℕ → ℕ → Mesh → List Removal → Removals
remove_from zero nvp i m log = removed m log
remove_from (suc f) nvp i m log =
    elim (goes i m) [
      | false ↦ remove_from f nvp (i + 1) m log
      | true ↦ elim (remove_vertex nvp i m) [
        | gone m' r ↦ remove_from f nvp i m' (log ++ (r ∷ []))
        | no_ears ↦ stuck_at i
      ]
    ]

unfoldable pub remove_all : ℕ → Mesh → Removals
remove_all nvp m = remove_from (length m.vertices) nvp 0 m []
