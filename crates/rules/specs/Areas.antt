-- The area law and the corner law: what demand 3 says of every job that is built. Definitions and statements; the proofs are in crate `laws`.
use Rattle.std.specs.Prelude.{◌≡◌, true, cond, List, [], ◌∷◌, map, ℕ, ◌+◌, ◌≤◌, ◌<◌, ℤ, pos, ◌+ℤ◌, ◌-ℤ◌, length}
use Rattle.rules.specs.Plane.{D, area, on_plane}
use Rattle.rules.specs.Ears.{done, triangulate}
use Rattle.rules.specs.Mesh.{Polygon, polygon_at, Mesh, place_of}
use Rattle.rules.specs.Merge.{merge_all}
use Rattle.rules.specs.Removal.{Removal, gone, goes, remove_vertex}
use Rattle.rules.specs.Job.{Job, count_t, contour_vertices}
use Rattle.rules.specs.Checks.{Lent}
use Rattle.rules.specs.Build.{built, outcome, contour_triangle}
use Rattle.rules.specs.Exits.{Stored}
use Rattle.rules.specs.declared.Point.{Point}
use Rattle.rules.specs.declared.Vertex.{Vertex}

-- the sum of f over a list
unfoldable pub sum_of : {A : Type 0} → (A → ℤ) → List A → ℤ
sum_of f [] = pos 0
sum_of f (x ∷ xs) = f x +ℤ sum_of f xs

-- ---- areas

-- the points of a polygon's corners
unfoldable pub points_of : List Vertex → Polygon → List Point
points_of vs p = map (place_of vs) p.corners

-- the doubled area of a polygon, and of a mesh
unfoldable pub polygon_area : List Vertex → Polygon → ℤ
polygon_area vs p = area (points_of vs p)

unfoldable pub mesh_area : Mesh → ℤ
mesh_area m = sum_of (polygon_area m.vertices) m.polygons

-- of a mesh as it is stored
unfoldable pub stored_area : Stored → ℤ
stored_area m = sum_of (polygon_area m.vertices) m.polygons

-- the doubled area of the contours of lengths ls, the first of which begins at the vertex `first` (a skipped one has fewer than three points, and so 0)
unfoldable pub contour_areas : List ℕ → ℕ → List ℕ → ℤ
contour_areas ns first [] = pos 0
contour_areas ns first (n ∷ ls) = area (map on_plane (contour_vertices ns first n)) +ℤ contour_areas ns (first + n) ls

unfoldable pub job_area : Job → ℤ
job_area j = contour_areas j.numbers 0 j.lengths

-- what a removal takes: D(chain's last, removed vertex, chain's first) if the hole was open, nothing if it closed
unfoldable pub area_taken : Removal → ℤ
area_taken r = cond r.closed (pos 0) (D r.last r.removed r.first)

-- Demand 3: "the doubled areas of all stored polygons add up exactly to the contours', less what open removals took"
abbrev pub AreaLaw : Type 0
AreaLaw = (j : Job) (b : Lent) (m : Mesh) (ls : List (List ℕ)) (log : List Removal) → outcome j b ≡ built m ls log
    → mesh_area m ≡ job_area j -ℤ sum_of area_taken log

-- ---- corners

-- a polygon's corners less 2, and the sum over polygons
unfoldable pub spare_corners : Polygon → ℤ
spare_corners p = pos (length p.corners) -ℤ pos 2

unfoldable pub spares_of : List Polygon → ℤ
spares_of ps = sum_of spare_corners ps

-- what a removal takes of it: 1 if the hole was open, 2 if it closed
unfoldable pub corners_taken : Removal → ℤ
corners_taken r = cond r.closed (pos 2) (pos 1)

-- before removals: the polygons of one contour have, summed, two fewer than their corners each, exactly its length minus 2
abbrev pub ContourCorners : Type 0
ContourCorners = (nvp region code : ℕ) (vs : List Vertex) (numbers : List ℕ) (ps : List Point) (ts : List (List ℕ)) → 3 ≤ nvp → 3 ≤ length ps
    → triangulate ps ≡ done ts
    → spares_of (merge_all vs nvp (map (contour_triangle numbers region code) ts)) ≡ pos (length ps) -ℤ pos 2

-- each removal lowers the mesh's sum by 1 if the hole was open, by 2 if it closed
abbrev pub RemovalCorners : Type 0
RemovalCorners = (nvp i : ℕ) (m m' : Mesh) (r : Removal) → 3 ≤ nvp → ((k : ℕ) → k < length m.polygons → 3 ≤ length (polygon_at m.polygons k).corners)
    → goes i m ≡ true → remove_vertex nvp i m ≡ gone m' r
    → spares_of m'.polygons ≡ spares_of m.polygons -ℤ corners_taken r

-- of the whole: the mesh's sum is T less what the removals took
abbrev pub CornerLaw : Type 0
CornerLaw = (j : Job) (b : Lent) (m : Mesh) (ls : List (List ℕ)) (log : List Removal) → outcome j b ≡ built m ls log
    → spares_of m.polygons ≡ pos (count_t j) -ℤ sum_of corners_taken log
