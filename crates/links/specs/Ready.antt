-- What the functions on polygons' sides and their links ask for, R6's steps for a polygon in hand, and the words of links. Definitions only.
use Rattle.std.specs.Prelude.{◌≡◌, cond, List, [], ◌∷◌, ◌++◌, ℕ, ◌+◌, ◌*◌, ◌≤◌, ◌<◌, eqb, ltb, length, get_or, set}
use Rattle.mem.specs.Slice.{view, splice}
use Rattle.mem.specs.Loops.{each}
use Rattle.mem.specs.Tab.{tab}
use Rattle.mem.specs.Packed.{packed}
use Rattle.rules.specs.Mesh.{Polygon, polygon_at, side_start, side_end}
use Rattle.rules.specs.Links.{none, no_edge, each_side, record_side, newest, join_at, join_side}
use Rattle.rules.specs.Portals.{portals}
use Rattle.rules.specs.Exits.{padded}
use Rattle.rules.specs.declared.Edge.{Edge}
use Rattle.laws.specs.Lists.{All, total}
use Rattle.laws.specs.Merge.{Below}
use Rattle.records.specs.Layout.{vertex_size, vertices_at, Placed, polygon_size, most_corners, polygons_at, Small, edge_size, edges_at, link_size}
use Rattle.records.specs.Values.{corners_of}
use Rattle.records.specs.declared.polygon.Poly.{Poly}
use Rattle.links.specs.declared.edges.EdgeTables.{EdgeTables}
use Rattle.links.specs.Tables.{Room, Edged, Rewritten}

-- `record_side` and `join_side` of the rules, for the corners cs of polygon i in hand
unfoldable pub record_of : List ℕ → ℕ → ℕ → List Edge → List Edge
record_of cs i j es =
    let a = side_start cs j in
    let b = side_end cs j in
    cond (ltb a b) (es ++ (record { low = a; high = b; poly = i; side = j; other = i; at = 0 } ∷ [])) es

unfoldable pub join_of : List ℕ → ℕ → ℕ → List Edge → List Edge
join_of cs i j es =
    let a = side_start cs j in
    let b = side_end cs j in
    cond (ltb b a) (join_at i j es (newest b a es)) es

-- a step for the corners in hand, for each side of polygon i
unfoldable pub each_of : (List ℕ → ℕ → ℕ → List Edge → List Edge) → List Polygon → ℕ → List Edge → List Edge
each_of made ps i es = each (made (polygon_at ps i).corners i) 0 (length (polygon_at ps i).corners) es

-- how many corners the polygons have: there are never more records than that
unfoldable pub corners_in : List Polygon → ℕ
corners_in ps = total (λ p. length p.corners) ps

-- ne records stand in the tables, and p is the value of a polygon with the number i, each of whose corners is one of nv vertices
pub record InHand (w : List ℕ) (t : EdgeTables) (nv ne i : ℕ) (p : Poly) : Type 0 where
  pub now : Edged w t nv ne
  pub inside : All (Below nv) (corners_of p)
  pub number : i < none

-- np polygons stand at o, in front of the tables, each corner being one of nv vertices
pub record Sides (w : List ℕ) (o np nv : ℕ) (t : EdgeTables) : Type 0 where
  pub fits : o + np * polygon_size ≤ t.firsts
  pub small : All Small (polygons_at w o np)
  pub inside : All (λ p. All (Below nv) p.corners) (polygons_at w o np)
  pub few : np < none

-- what stood in w's tables became all sides of its np polygons at o recorded, and joined
abbrev pub SidesRecorded : List ℕ → List ℕ → ℕ → ℕ → ℕ → EdgeTables → ℕ → ℕ → Type 0
SidesRecorded w u o np nv t ne r =
    Rewritten w u t nv ne (each_side (polygons_at w o np) (record_side (polygons_at w o np)) (edges_at w t.edges ne)) (corners_in (polygons_at w o np)) r

abbrev pub SidesJoined : List ℕ → List ℕ → ℕ → ℕ → ℕ → EdgeTables → ℕ → Type 0
SidesJoined w u o np nv t ne = Rewritten w u t nv ne (each_side (polygons_at w o np) (join_side (polygons_at w o np)) (edges_at w t.edges ne)) 0 ne

-- np polygons stand at o, with room for as many records as they have corners, and for their links at lo, behind the tables
pub record LinkReady (w : List ℕ) (o np nv : ℕ) (t : EdgeTables) (lo : ℕ) : Type 0 where
  pub sides : Sides w o np nv t
  pub room : Room w t nv (corners_in (polygons_at w o np))
  pub behind : t.nexts + corners_in (polygons_at w o np) ≤ lo
  pub links : lo + np * link_size ≤ length w

-- the words of the links of polygons' sides: as many for each polygon, 65,535 behind the last link
unfoldable pub link_records : List (List ℕ) → List ℕ
link_records ls = packed (padded link_size) ls

-- where link j of polygon i stands, the links standing at lo
abbrev pub link_place : ℕ → ℕ → ℕ → ℕ
link_place lo i j = lo + i * link_size + j

-- the words w once both polygons of e store each other's number: `store_edge` of the rules, for words
unfoldable pub store_words : ℕ → Edge → List ℕ → List ℕ
store_words lo e w =
    cond (eqb e.other e.poly) w (set (set w (link_place lo e.poly e.side) e.other) (link_place lo e.other e.at) e.poly)

-- k is one of the ne records at t, and the links that it names stand in the buffer
pub record StoreReady (w : List ℕ) (t : EdgeTables) (ne k lo : ℕ) : Type 0 where
  pub fits : t.edges + ne * edge_size ≤ length w
  pub below : k < ne
  pub one : link_place lo (get_or (edges_at w t.edges ne) k no_edge).poly (get_or (edges_at w t.edges ne) k no_edge).side < length w
  pub other : link_place lo (get_or (edges_at w t.edges ne) k no_edge).other (get_or (edges_at w t.edges ne) k no_edge).at < length w

-- the links that the words at lo hold: for each polygon as many as it has corners
unfoldable pub links_at : List ℕ → ℕ → List Polygon → List (List ℕ)
links_at w lo ps = tab (λ i. view w (lo + i * link_size) (length (polygon_at ps i).corners)) (length ps)

-- p's corners are among the nv vertices at vo, each on the grid, and its links stand at `at`, behind them
pub record LinksInHand (w : List ℕ) (vo nv : ℕ) (p : Poly) (at : ℕ) : Type 0 where
  pub placed : Placed w vo nv
  pub behind : vo + nv * vertex_size ≤ at
  pub inside : All (Below nv) (corners_of p)
  pub most : p.n ≤ most_corners
  pub fits : at + p.n ≤ length w

-- nv vertices stand at vo, each on the grid, behind them np polygons at o, each corner being one of the vertices, and behind those their links at lo
pub record PortalReady (w : List ℕ) (vo nv o np lo : ℕ) : Type 0 where
  pub placed : Placed w vo nv
  pub vertices : vo + nv * vertex_size ≤ o
  pub polygons : o + np * polygon_size ≤ lo
  pub links : lo + np * link_size ≤ length w
  pub small : All Small (polygons_at w o np)
  pub inside : All (λ p. All (Below nv) p.corners) (polygons_at w o np)
  pub is : w ≡ splice w lo (link_records (links_at w lo (polygons_at w o np)))

-- R7's links of those polygons
abbrev pub portals_at : List ℕ → ℕ → ℕ → ℕ → ℕ → ℕ → ℕ → ℕ → ℕ → List (List ℕ)
portals_at u vo nv o np lo w h border = portals (vertices_at u vo nv) w h border (polygons_at u o np) (links_at u lo (polygons_at u o np))
