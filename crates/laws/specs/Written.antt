-- A polygon as the checker reads it, and what the checker's sentences ask of a mesh, said of its lists. Definitions only.
use Rattle.std.specs.Prelude.{ℕ, ◌≤◌, ◌<◌, ◌≡◌}
use mathlib.Core.List.{List}
use Rattle.std.proofs.Math.ListN.{length}
use Rattle.rules.specs.declared.Vertex.{Vertex}
use Rattle.rules.specs.Plane.{on_plane, InGrid}
use Rattle.rules.specs.Mesh.{Polygon, polygon_at}
use Rattle.rules.specs.Links.{none}
use Rattle.rules.specs.Handed.{link_at, last_portal}
use Rattle.rules.specs.Handed.{NamedBack}
use Rattle.rules.specs.Checker.{open_link}
use Rattle.laws.specs.Lists.{All}
use Rattle.laws.specs.Merge.{Good, Below}
use Rattle.laws.specs.Links.{Shaped}

-- a polygon as the checker reads it: it has neither region nor code
unfoldable pub bare : Polygon → Polygon
bare p = record { corners = p.corners; region = 0; code = 0 }

-- what the checker's sentences ask of a mesh, said of its lists
pub record Meets (nvp w h border : ℕ) (vs : List Vertex) (ps : List Polygon) (ls : List (List ℕ)) : Type 0 where
  pub nvp_low : 3 ≤ nvp
  pub nvp_high : nvp ≤ 12
  pub few_vertices : length vs ≤ 65535
  pub few_polygons : length ps ≤ 65535
  pub grid : All (λ (v : Vertex). InGrid (on_plane v)) vs
  pub good : All (Good (Below (length vs)) nvp) ps
  pub shaped : Shaped ps ls
  pub named : (i j : ℕ) → i < length ps → j < length (polygon_at ps i).corners → link_at ls i j < none → NamedBack ps ls i j
  pub opened : (i j : ℕ) → i < length ps → j < length (polygon_at ps i).corners → none ≤ link_at ls i j
      → link_at ls i j ≡ open_link vs w h border (polygon_at ps i).corners j
  pub most : (i j : ℕ) → link_at ls i j ≤ last_portal
