-- R7: open sides on the grid's edge become portals. Definitions only.
use Rattle.std.specs.Prelude.{◌&&◌, cond, List, [], ℕ, eqb, ltb, length, get_or}
use Rattle.mem.specs.Tab.{tab}
use Rattle.rules.specs.Mesh.{Polygon, polygon_at, side_start, side_end, place_of}
use Rattle.rules.specs.Links.{none}
use Rattle.rules.specs.declared.Point.{Point}
use Rattle.rules.specs.declared.Vertex.{Vertex}

-- "with both ends on x=0, z=h, x=w or z=0, tried so, gets 65,536 plus 0, 1, 2 or 3"; else it stays open
unfoldable pub portal_of : ℕ → ℕ → Point → Point → ℕ
portal_of w h a b =
    cond (eqb a.x 0 && eqb b.x 0) 65536
    (cond (eqb a.z h && eqb b.z h) 65537
    (cond (eqb a.x w && eqb b.x w) 65538
    (cond (eqb a.z 0 && eqb b.z 0) 65539 none)))

-- "an open side": side j of a polygon with corners cs and links ls, if its link is none. (No polygon has the number 65,535: `Widths`)
unfoldable pub portal_at : List Vertex → ℕ → ℕ → List ℕ → List ℕ → ℕ → ℕ
portal_at vs w h cs ls j =
    cond (eqb (get_or ls j none) none)
    (portal_of w h (place_of vs (side_start cs j)) (place_of vs (side_end cs j)))
    (get_or ls j none)

unfoldable pub portals_in : List Vertex → ℕ → ℕ → List ℕ → List ℕ → List ℕ
portals_in vs w h cs ls = tab (portal_at vs w h cs ls) (length cs)

-- "If border > 0": the links of the polygons' sides, with the portals
unfoldable pub portals : List Vertex → ℕ → ℕ → ℕ → List Polygon → List (List ℕ) → List (List ℕ)
portals vs w h border ps ls =
    cond (ltb 0 border) (tab (λ i. portals_in vs w h (polygon_at ps i).corners (get_or ls i [])) (length ps)) ls
