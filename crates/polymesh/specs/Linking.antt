-- The links of the mesh in the work buffer of a build: what the linking asks for, and what it leaves. Definitions only.
use Rattle.std.specs.Prelude.{◌≡◌, List, ℕ, ◌≤◌, ◌<◌, length}
use Rattle.mem.specs.Slice.{splice}
use Rattle.rules.specs.Mesh.{Mesh}
use Rattle.rules.specs.Links.{none, edges_of, links_of}
use Rattle.rules.specs.Portals.{portals}
use Rattle.records.specs.Layout.{most_corners}
use Rattle.links.specs.Tables.{edged}
use Rattle.links.specs.Ready.{link_records}
use Rattle.records.specs.declared.counts.Counts.{Counts}
use Rattle.removals.specs.Site as Removals
use Rattle.removals.specs.Site.{mesh_at}
use Rattle.outputs.specs.declared.store.Places.{Places}
use Rattle.outputs.specs.Stored as Outputs
use Rattle.polymesh.specs.Layout.{Sized, used_of, polygons_of, site_of, edge_tables_of, link_place_of}

-- where the mesh and its links stand
abbrev pub places_of : ℕ → ℕ → Counts → Places
places_of v t n = record { vertices = record { at = 4096; n = n.vertices }; polygons = record { at = polygons_of v; n = n.polygons }; links = link_place_of v t }

-- the links of a mesh on a grid of w by h with this border: R6 and R7, as the rules' `linked` has them
abbrev pub links_with : ℕ → ℕ → ℕ → Mesh → List (List ℕ)
links_with w h border m = portals m.vertices w h border m.polygons (links_of m.polygons)

-- the mesh stands where the removals leave it, and its polygons have numbers below 65,535
pub record LinkableReady (u : List ℕ) (v t : ℕ) (n : Counts) : Type 0 where
  pub sized : Sized v t
  pub room : used_of v t ≤ length u
  pub stands : Removals.Stands u (site_of v t) n most_corners
  pub few : n.polygons < none

-- the words u of that buffer became x. `is` fixes all: the sides' records in their tables, the links in their place, every other word as it was. The others
-- follow from it, and spare the callers the way there
pub record LinkedTo (u x : List ℕ) (v t : ℕ) (n : Counts) (w h border : ℕ) : Type 0 where
  pub is : x
      ≡ splice (edged u (edge_tables_of v t) n.vertices (edges_of (mesh_at u (site_of v t) n).polygons)) (link_place_of v t)
      (link_records (links_with w h border (mesh_at u (site_of v t) n)))
  pub size : length x ≡ length u
  pub stands : Outputs.Stands (places_of v t n) x (mesh_at u (site_of v t) n) (links_with w h border (mesh_at u (site_of v t) n))
