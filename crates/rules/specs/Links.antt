-- R6: the sides of the mesh's polygons are linked. Definitions only.
use Rattle.std.specs.Prelude.{Bool, ◌&&◌, cond, List, [], ◌∷◌, ◌++◌, map, ℕ, eqb, ltb, length, get_or, set, replicate, Option, Some, None}
use Rattle.mem.specs.Loops.{each}
use Rattle.rules.specs.Lists.{when, or_else, down}
use Rattle.rules.specs.Mesh.{Polygon, polygon_at, side_start, side_end}
use Rattle.rules.specs.declared.Edge.{Edge}

-- "65,535 is none."
abbrev pub none : ℕ
none = 65535

abbrev pub no_edge : Edge
no_edge = record { low = 0; high = 0; poly = 0; side = 0; other = 0; at = 0 }

-- the step taken for each side j of each polygon i, "in polygon order"
unfoldable pub each_side : {S : Type 0} → List Polygon → (ℕ → ℕ → S → S) → S → S
each_side ps step s = each (λ i t. each (step i) 0 (length (polygon_at ps i).corners) t) 0 (length ps) s

-- "Each side from a lower to a higher vertex is recorded": joined to none as yet
unfoldable pub record_side : List Polygon → ℕ → ℕ → List Edge → List Edge
record_side ps i j es =
    let a = side_start (polygon_at ps i).corners j in
    let b = side_end (polygon_at ps i).corners j in
    cond (ltb a b) (es ++ (record { low = a; high = b; poly = i; side = j; other = i; at = 0 } ∷ [])) es

-- a record of a side from low to high "not yet joined to another polygon"
unfoldable pub is_free : ℕ → ℕ → Edge → Bool
is_free low high e = eqb e.low low && (eqb e.high high && eqb e.other e.poly)

-- "the newest record not yet joined"
unfoldable pub newest : ℕ → ℕ → List Edge → Option ℕ
newest low high es = down None or_else (λ k. when (is_free low high (get_or es k no_edge)) k) (length es)

-- the record joined to side j of polygon i
unfoldable pub joined_to : ℕ → ℕ → Edge → Edge
joined_to i j e = record { low = e.low; high = e.high; poly = e.poly; side = e.side; other = i; at = j }

-- "A side that meets its own polygon stays open.": the newest free record is taken even if it is the polygon's own, and no older one is tried. A record
-- joined to its own polygon is joined to none: it stays free for a later side, and neither side gets a link
unfoldable pub join_at : ℕ → ℕ → List Edge → Option ℕ → List Edge
join_at i j es (Some k) = set es k (joined_to i j (get_or es k no_edge))
join_at i j es None = es

-- "each opposite one, in polygon order, takes the newest record not yet joined to another polygon". A side from a vertex to itself is neither of the two
unfoldable pub join_side : List Polygon → ℕ → ℕ → List Edge → List Edge
join_side ps i j es =
    let a = side_start (polygon_at ps i).corners j in
    let b = side_end (polygon_at ps i).corners j in
    cond (ltb b a) (join_at i j es (newest b a es)) es

-- all records: first all sides are recorded, then the opposite ones take theirs
unfoldable pub edges_of : List Polygon → List Edge
edges_of ps = each_side ps (join_side ps) (each_side ps (record_side ps) [])

-- links are a list for each polygon, with a number for each side: side j of polygon i gets the link n
unfoldable pub set_link : ℕ → ℕ → ℕ → List (List ℕ) → List (List ℕ)
set_link i j n ls = set ls i (set (get_or ls i []) j n)

-- "Both ends store each other's polygon"
unfoldable pub store_edge : List Edge → ℕ → List (List ℕ) → List (List ℕ)
store_edge es k ls =
    let e = get_or es k no_edge in
    cond (eqb e.other e.poly) ls (set_link e.other e.at e.poly (set_link e.poly e.side e.other ls))

unfoldable pub no_links : List Polygon → List (List ℕ)
no_links ps = map (λ p. replicate (length p.corners) none) ps

-- the links of the polygons' sides. Rust's `build_mesh_adjacency`
unfoldable pub links_of : List Polygon → List (List ℕ)
links_of ps =
    let es = edges_of ps in
    each (store_edge es) 0 (length es) (no_links ps)
