-- R5: the sides, the chain and the hole of a removal, what fills it, a sound mesh, and what one removal does to it. Definitions only.
use Rattle.std.specs.Prelude.{ℕ, ◌+◌, ◌-◌, ◌<◌, Bool, cond, ℤ, pos, ◌+ℤ◌, ◌-ℤ◌}
use Rattle.std.proofs.Math.Path.{◌≡◌}
use Rattle.std.proofs.Math.Bool.{true}
use mathlib.Core.List.{List, [], ◌∷◌, map}
use Rattle.std.proofs.Math.ListN.{length}
use Rattle.rules.specs.declared.Point.{Point}
use Rattle.rules.specs.declared.Vertex.{Vertex}
use Rattle.rules.specs.declared.Side.{Side}
use Rattle.rules.specs.declared.ChainPoint.{ChainPoint}
use Rattle.rules.specs.Plane.{D, area, on_plane, InGrid}
use Rattle.rules.specs.Lists.{without}
use Rattle.rules.specs.Mesh.{Polygon, Mesh, place_of}
use Rattle.rules.specs.Merge.{merge_all}
use Rattle.rules.specs.Removal.{holds, TakingOut, dropped_in, sides_left, first_of, last_of, walk, held_once, places_of, hole_triangle, Removal}
use Rattle.rules.specs.Areas.{sum_of, mesh_area, area_taken}
use Rattle.laws.specs.Measures.{area_of, spares_in, taken_by}
use Rattle.laws.specs.Lists.{All}
use Rattle.laws.specs.Sides.{path}
use Rattle.laws.specs.Merge.{Good, Below, Long}
use Rattle.laws.specs.Around.{seen, ClearSide}
use Rattle.laws.specs.Walks.{on_side}

-- ---- the hole, as a list of points
-- the sum of what the sides of the path give, as seen from v
unfoldable pub path_of : Point → List Point → ℤ
path_of v [] = pos 0
path_of v (p ∷ l) = path (D v) p l

-- ---- what goes and what stays

-- what the polygons ps give, as the vertex goes: sides, which have the area of those that went, as seen from the vertex; and the polygons that stay
pub record Opened (vs : List Vertex) (nvp rem : ℕ) (ps : List Polygon) (out : TakingOut) : Type 0 where
  pub areas : area_of vs ps ≡ sum_of (on_side (seen (place_of vs rem) (place_of vs))) out.sides +ℤ area_of vs out.polygons
  pub clear : All (ClearSide rem (length vs)) out.sides
  pub good : All (Good (Below (length vs)) nvp) out.polygons
  pub free : All (λ p. holds rem p ≡ 0) out.polygons

-- the polygons that stay stand where they stood, once the higher numbers have dropped
pub record Kept (vs : List Vertex) (nvp rem : ℕ) (ps : List Polygon) : Type 0 where
  pub areas : area_of (without vs rem) (map (dropped_in rem) ps) ≡ area_of vs ps
  pub good : All (Good (Below (length (without vs rem))) nvp) (map (dropped_in rem) ps)

-- ---- the hole that the chain is

-- where a point of the chain stands
abbrev pub place_in : List Vertex → ChainPoint → Point
place_in vs c = place_of vs c.vertex

-- what an open hole takes, as seen from v
abbrev pub lost : List Vertex → Point → List ChainPoint → Bool → ℤ
lost vs v chain closed = cond closed (pos 0) (D (place_in vs (last_of chain)) v (place_in vs (first_of chain)))

-- ---- the triangles that fill it

-- the triangles ts, merged, fill the hole
pub record Filled (vs : List Vertex) (P : ℕ → Type 0) (nvp : ℕ) (hole : List ChainPoint) (ts : List (List ℕ)) : Type 0 where
  pub areas : area_of vs (merge_all vs nvp (map (hole_triangle hole) ts)) ≡ area (places_of vs hole)
  pub good : All (Good P nvp) (merge_all vs nvp (map (hole_triangle hole) ts))

-- ---- the chain

-- the walk over the sides, which used all of them: the chain's sides are those that the polygons gave, in new numbers
pub record Chained (vs : List Vertex) (rem : ℕ) (sides : List Side) (chain : List ChainPoint) : Type 0 where
  pub areas : path_of (place_of vs rem) (places_of (without vs rem) chain) ≡ sum_of (on_side (seen (place_of vs rem) (place_of vs))) sides
  pub inside : All (λ (c : ChainPoint). c.vertex < length (without vs rem)) chain

-- ---- one removal

-- a mesh whose polygons are stored polygons, whose marks are as many as its vertices, and whose vertices lie in the grid
pub record Sound (nvp : ℕ) (m : Mesh) : Type 0 where
  pub good : All (Good (Below (length m.vertices)) nvp) m.polygons
  pub marked : length m.marks ≡ length m.vertices
  pub grid : All (λ (v : Vertex). InGrid (on_plane v)) m.vertices

-- what `can_remove` tests, but for the neighbours
pub record Removable (rem : ℕ) (ps : List Polygon) : Type 0 where
  pub once : held_once rem ps ≡ true
  pub many : 2 < length (sides_left rem ps)
  pub used : length (walk (sides_left rem ps)).rest ≡ 0

-- from the mesh m to the mesh t, with the log r
pub record Step (nvp : ℕ) (m t : Mesh) (r : Removal) : Type 0 where
  pub areas : mesh_area t ≡ mesh_area m -ℤ area_taken r
  pub sound : Sound nvp t
  pub vertices : length t.vertices ≡ length m.vertices - 1

-- a removal lowers the sum of corners beyond two by 1 if the hole was open, by 2 if it closed
pub record Shorter (m t : Mesh) (r : Removal) : Type 0 where
  pub spares : spares_in t.polygons + taken_by r ≡ spares_in m.polygons
  pub long : All Long t.polygons
