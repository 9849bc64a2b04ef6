-- A mesh that stands in the work buffer, whose numbers fit as those of a build do, meets what the copying asks for; and the six buffers become those of the
-- rules' `filled`. Assumes nothing.
-- Key: `store_ready`, `stored_filled`.
use Rattle.std.specs.Prelude.{◌≡◌, ℕ, ◌+◌, ◌*◌, ◌≤◌, replicate}
use Rattle.std.proofs.Common.{sym, ◌∙◌, arith}
use Rattle.std.proofs.Math.Path.{ap}
use mathlib.Core.List.{List, map}
use Rattle.std.proofs.Math.ListN.{length}
use Rattle.mem.specs.Slice.{splice, splice_over}
use Rattle.mem.specs.Packed.{packed}
use Rattle.rules.specs.Mesh.{Polygon, Mesh}
use Rattle.rules.specs.Job.{Job}
use Rattle.rules.specs.Checks.{Lent, vertex_stride}
use Rattle.rules.specs.Exits.{vertex_words, padded, corner_words, wiped, filled}
use Rattle.rules.specs.Widths.{Fits}
use Rattle.rules.specs.declared.Vertex.{Vertex}
use Rattle.laws.specs.Lists.{All}
use Rattle.records.specs.Layout.{vertex_size, vertices_at, polygon_size, most_corners, polygons_at, link_size}
use Rattle.records.specs.Polygons.{length_polygons}
use Rattle.links.specs.Ready.{link_records, links_at}
use Rattle.outputs.specs.declared.store.Places.{Places}
use Rattle.outputs.specs.Ready.{UpTo, buffers, StoreReady, StoredTo}

-- the vertices and polygons of m stand in w, and ls, the links of their sides, which were written last, over the words `before`
pub record Stands (at : Places) (w : List ℕ) (m : Mesh) (ls : List (List ℕ)) : Type 0 where
  pub vertices_end : at.vertices.at + at.vertices.n * vertex_size ≤ length w
  pub polygons_end : at.polygons.at + at.polygons.n * polygon_size ≤ length w
  pub links_end : at.links + at.polygons.n * link_size ≤ length w
  pub vertices : vertices_at w at.vertices.at at.vertices.n ≡ m.vertices
  pub polygons : polygons_at w at.polygons.at at.polygons.n ≡ m.polygons
  pub links : links_at w at.links m.polygons ≡ ls
  pub before : List ℕ
  pub is : w ≡ splice before at.links (link_records ls)

-- there is room for them in the six buffers
pub record Room (at : Places) (nvp : ℕ) (b : Lent) : Type 0 where
  pub vertices : at.vertices.n * vertex_stride ≤ length b.vertices
  pub polygons : at.polygons.n * nvp ≤ length b.polygons
  pub neighbours : at.polygons.n * nvp ≤ length b.neighbours
  pub regions : at.polygons.n ≤ length b.regions
  pub codes : at.polygons.n ≤ length b.codes
  pub flags : at.polygons.n ≤ length b.flags

links_stand : {at : Places} {w : List ℕ} {m : Mesh} {ls : List (List ℕ)} → Stands at w m ls → w ≡ splice w at.links (link_records ls)
links_stand {at} {w} {m} {ls} s =
    s.is ∙ sym (splice_over s.before at.links (link_records ls) (link_records ls) (omega arith))
    ∙ ap (λ (u : List ℕ). splice u at.links (link_records ls)) (sym s.is)

module _ {at : Places} {b : Lent} {m : Mesh} {ls : List (List ℕ)} (s : Stands at b.work m ls) where
  pub store_ready : {nvp : ℕ} → Room at nvp b → nvp ≤ most_corners → All (UpTo nvp) m.polygons → Fits m ls → StoreReady at nvp b
  store_ready room most short fits = record {
    vertices = record {
      stand = s.vertices_end;
      room = room.vertices;
      x = rw s.vertices fits.x;
      y = rw s.vertices fits.y;
      z = rw s.vertices fits.z;
    };
    polygons = record {
      stand = s.polygons_end;
      room = room.polygons;
      most = most;
      short = rw s.polygons short;
      corners = rw s.polygons fits.corners;
    };
    neighbours = record {
      stand = s.links_end;
      room = room.neighbours;
      most = most;
      short = rw s.polygons short;
      is = rw (s.polygons, s.links) (links_stand s);
    };
    regions = record { stand = s.polygons_end; room = room.regions; regions = rw s.polygons fits.regions };
    codes = record { stand = s.polygons_end; room = room.codes; codes = rw s.polygons fits.codes };
    flags = room.flags;
  }

  -- x is what the build's own work buffer v has become
  pub stored_filled : (j : Job) {u : Lent} → StoredTo at j.nvp b u → (v x : List ℕ) → x ≡ wiped j v
      → buffers u.vertices u.polygons u.neighbours u.regions u.codes u.flags x
      ≡ filled j (buffers b.vertices b.polygons b.neighbours b.regions b.codes b.flags v) m ls
  unfolding filled
  stored_filled j t v x e = λ i. record {
    vertices = (t.vertices ∙ ap (λ (l : List Vertex). splice b.vertices 0 (packed vertex_words l)) s.vertices) i;
    polygons = (t.polygons ∙ ap (λ (l : List Polygon). splice b.polygons 0 (packed (corner_words j.nvp) l)) s.polygons) i;
    neighbours = (t.neighbours
        ∙ ap (λ (l : List (List ℕ)). splice b.neighbours 0 (packed (padded j.nvp) l)) (ap (links_at b.work at.links) s.polygons ∙ s.links)) i;
    regions = (t.regions ∙ ap (λ (l : List Polygon). splice b.regions 0 (map (λ p. p.region) l)) s.polygons) i;
    codes = (t.codes ∙ ap (λ (l : List Polygon). splice b.codes 0 (map (λ p. p.code) l)) s.polygons) i;
    flags = (t.flags
        ∙ ap (λ (n : ℕ). splice b.flags 0 (replicate n 0)) (sym (length_polygons b.work at.polygons.at at.polygons.n) ∙ ap length s.polygons)) i;
    work = e i;
  }
