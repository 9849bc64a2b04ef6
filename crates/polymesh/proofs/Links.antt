-- The mesh that the removals left is linked in place: what each of the two steps asks for holds, because polygons have no more than three corners a triangle,
-- and what both leave is the rules' links. Assumes nothing.
-- Key: `link_ready`, `mark_ready`: what the steps ask for; `linked`: what they come to.
use mathlib.Core.Path.{◌≡◌, sym, ap, ◌∙◌}
use mathlib.Core.List.{List}
use Prim.Native.Nat.{ℕ, ◌+◌, ◌*◌, ◌≤◌}
use native.Mathlib.Omega.{arith}
use lib.ListN.{length}
use Rattle.mem.specs.Slice.{splice, splice_over, length_splice}
use Rattle.mem.specs.Packed.{every_at}
use Rattle.mem.specs.Tab.{blocks_after}
use Rattle.rules.specs.Plane.{InGrid, on_plane}
use Rattle.rules.specs.Weld.{no_vertex}
use Rattle.rules.specs.Mesh.{place_of}
use Rattle.rules.specs.Links.{edges_of, links_of}
use Rattle.laws.specs.Lists.{All}
use Rattle.laws.proofs.Lists.{all_imp, every_of_all}
use Rattle.laws.proofs.Links.{links_shaped, portals_shaped}
use Rattle.laws.specs.Merge.{Good, Below, Long}
use Rattle.laws.proofs.Merge.{polygons_few}
use Rattle.records.specs.Layout.{vertex_size, vertex_in, vertices_at, Placed, polygon_size, most_corners, polygon_in, polygons_at, Small, link_size}
use Rattle.records.specs.Vertices.{length_vertices}
use Rattle.records.specs.Polygons.{length_polygons}
use Rattle.links.specs.Tables.{edged}
use Rattle.links.specs.Ready.{corners_in, LinkReady, link_records, links_at, PortalReady, portals_at}
use Rattle.links.specs.Counts.{corners_spares}
use Rattle.links.specs.Linked.{length_links, linked_size, linked_polygons, linked_links, linked_vertices, linked_ready, marked_links}
use Rattle.records.specs.declared.counts.Counts.{Counts}
use Rattle.removals.specs.Site.{mesh_at}
use Rattle.polymesh.specs.Layout.{polygons_of, site_of, edge_tables_of, link_place_of}
use Rattle.polymesh.specs.Linking.{links_with, LinkableReady, LinkedTo}

module _ {u : List ℕ} {v t : ℕ} {n : Counts} (r : LinkableReady u v t n) where
  long : All Long (polygons_at u (polygons_of v) n.polygons)
  long = all_imp (λ p (g : Good (Below (length (vertices_at u 4096 n.vertices))) most_corners p). g.long) r.stands.sound.good

  few : n.polygons ≤ t
  few = omega (arith, polygons_few long, r.stands.spares, length_polygons u (polygons_of v) n.polygons)

  -- at most three corners a triangle
  corners : corners_in (polygons_at u (polygons_of v) n.polygons) ≤ 3 * t
  corners = omega (arith, polygons_few long, corners_spares long, r.stands.spares)

  small : All Small (polygons_at u (polygons_of v) n.polygons)
  small = all_imp (λ p (g : Good (Below (length (vertices_at u 4096 n.vertices))) most_corners p). g.short) r.stands.sound.good

  inside : All (λ p. All (Below n.vertices) p.corners) (polygons_at u (polygons_of v) n.polygons)
  inside =
      let q = length_vertices u 4096 n.vertices in
      all_imp (λ p (g : Good (Below n.vertices) most_corners p). g.inside) (rw q at r.stands.sound.good)

  pub link_ready : LinkReady u (polygons_of v) n.polygons n.vertices (edge_tables_of v t) (link_place_of v t)
  link_ready = record {
    sides = record { fits = omega (arith, few); small = small; inside = inside; few = r.few };
    room = record {
      firsts = omega (arith, r.stands.vertices);
      edges = omega (arith, corners);
      nexts = omega (arith, corners, r.room, r.sized.t_most);
      few = omega (arith, corners, r.sized.v_most, r.sized.t_most);
    };
    behind = omega (arith, corners);
    links = omega (arith, few, r.room, r.sized.t_most);
  }

  placed : Placed u 4096 n.vertices
  unfolding place_of
  placed = record {
    fits = omega (arith, r.stands.vertices, r.room);
    grid = every_at (λ z. InGrid (on_plane z)) no_vertex (vertices_at u 4096 n.vertices)
        (every_of_all (λ z. InGrid (on_plane z)) no_vertex (record { x_small = omega arith; z_small = omega arith }) r.stands.sound.grid);
  }

  vertices_end : 4096 + n.vertices * vertex_size ≤ polygons_of v
  vertices_end = omega (arith, r.stands.vertices)

  polygons_end : polygons_of v + n.polygons * polygon_size ≤ link_place_of v t
  polygons_end = omega (arith, few)

  links_end : link_place_of v t + n.polygons * link_size ≤ length u
  links_end = link_ready.links

  -- y are the words after R6
  module _ {y : List ℕ}
      (e : y
      ≡ splice (edged u (edge_tables_of v t) n.vertices (edges_of (polygons_at u (polygons_of v) n.polygons))) (link_place_of v t)
      (link_records (links_of (polygons_at u (polygons_of v) n.polygons)))) where
    pub mark_ready : PortalReady y 4096 n.vertices (polygons_of v) n.polygons (link_place_of v t)
    mark_ready = linked_ready link_ready e 4096 placed vertices_end

    same_vertices : vertices_at y 4096 n.vertices ≡ vertices_at u 4096 n.vertices
    same_vertices = linked_vertices link_ready e 4096 placed vertices_end

    same_polygons : polygons_at y (polygons_of v) n.polygons ≡ polygons_at u (polygons_of v) n.polygons
    same_polygons = linked_polygons link_ready e

    -- x are those after R7
    module _ (w h border : ℕ) {x : List ℕ}
        (d : x ≡ splice y (link_place_of v t) (link_records (portals_at y 4096 n.vertices (polygons_of v) n.polygons (link_place_of v t) w h border))) where
      links : List (List ℕ)
      links = links_with w h border (mesh_at u (site_of v t) n)

      -- the links that R7 read are R6's
      read : portals_at y 4096 n.vertices (polygons_of v) n.polygons (link_place_of v t) w h border ≡ links
      unfolding links
      read = rw (same_vertices, same_polygons, linked_links link_ready e)

      written : x ≡ splice y (link_place_of v t) (link_records links)
      written = d ∙ ap (λ (l : List (List ℕ)). splice y (link_place_of v t) (link_records l)) read

      -- and stand in their place, being as many
      over : x ≡ splice (edged u (edge_tables_of v t) n.vertices (edges_of (polygons_at u (polygons_of v) n.polygons))) (link_place_of v t) (link_records links)
      unfolding links
      over =
          let ps = polygons_at u (polygons_of v) n.polygons in
          let a = length_links ps (links_of ps) small (links_shaped ps) in
          let b = length_links ps links small (portals_shaped (vertices_at u 4096 n.vertices) w h border ps (links_of ps) (links_shaped ps)) in
          written
          ∙ ap (λ (z : List ℕ). splice z (link_place_of v t) (link_records links)) e
          ∙ splice_over _ (link_place_of v t) (link_records (links_of ps)) (link_records links) (omega arith)

      size : length x ≡ length u
      size = ap length d ∙ length_splice y (link_place_of v t) _ ∙ linked_size link_ready e

      vertices_stand : vertices_at x 4096 n.vertices ≡ vertices_at u 4096 n.vertices
      unfolding vertices_at
      vertices_stand =
          ap (λ (z : List ℕ). vertices_at z 4096 n.vertices) d
          ∙ blocks_after vertex_in y (link_place_of v t) 4096 vertex_size n.vertices _ (omega (arith, vertices_end, polygons_end))
          ∙ same_vertices

      polygons_stand : polygons_at x (polygons_of v) n.polygons ≡ polygons_at u (polygons_of v) n.polygons
      unfolding polygons_at
      polygons_stand =
          ap (λ (z : List ℕ). polygons_at z (polygons_of v) n.polygons) d
          ∙ blocks_after polygon_in y (link_place_of v t) (polygons_of v) polygon_size n.polygons _ polygons_end
          ∙ same_polygons

      links_stand : links_at x (link_place_of v t) (polygons_at u (polygons_of v) n.polygons) ≡ links
      links_stand = ap (links_at x (link_place_of v t)) (sym same_polygons) ∙ marked_links mark_ready w h border d ∙ read

      pub linked : LinkedTo u x v t n w h border
      unfolding links
      linked = record {
        is = over;
        size = size;
        stands = record {
          vertices_end = omega (arith, vertices_end, polygons_end, links_end, size);
          polygons_end = omega (arith, polygons_end, links_end, size);
          links_end = omega (arith, links_end, size);
          vertices = vertices_stand;
          polygons = polygons_stand;
          links = links_stand;
          before = y;
          is = written;
        };
      }
