-- A sound mesh written at its place stands there, and reads back as it was. Assumes nothing.
-- Key: `stands_of`; `mesh_in_again`: written over another mesh, only the last one shows.
use Rattle.std.specs.Prelude.{◌≡◌, refl, ℕ, ◌*◌, ◌^◌, ◌≤◌, ◌<◌, length}
use Rattle.std.proofs.Common.{sym, ap, subst, ◌∙◌}
use mathlib.Core.List.{List, []}
use native.Mathlib.Omega.{arith}
use Rattle.mem.specs.Packed.{Every}
use Rattle.mem.specs.Shelves.{length_shelved, shelved_again}
use Rattle.mem.specs.Zeros.{with_zeros, length_zeros}
use Rattle.rules.specs.Mesh.{Polygon, no_polygon, Mesh}
use Rattle.laws.specs.Lists.{All}
use Rattle.laws.proofs.Lists.{all_imp}
use Rattle.laws.specs.Measures.{spares_in}
use Rattle.laws.specs.Merge.{Good, Below}
use Rattle.laws.proofs.Merge.{polygons_few}
use Rattle.laws.specs.Removal.{Sound}
use Rattle.records.specs.Layout.{vertex_size, vertex_records, polygon_size, most_corners, polygon_records, Small}
use Rattle.records.specs.Vertices.{length_vertex_records}
use Rattle.records.specs.Polygons.{length_records}
use Rattle.holes.specs.Small.{small_good}
use Rattle.removals.specs.declared.site.Site.{Site}
use Rattle.records.specs.declared.counts.Counts.{Counts}
use Rattle.removals.specs.Site.{mesh_at, scratch_room, standing, mesh_in, Fits, Stands}
use Rattle.removals.specs.Removing.{counts_of}
use Rattle.removals.specs.Stages.{Stage, stage_fits, vertices_read, marks_read, polygons_read}

pub length_in : (w : List ℕ) (s : Site) (m : Mesh) → length (mesh_in w s m) ≡ length w
unfolding mesh_in standing
length_in w s m = length_shelved w s.vertices _ s.polygons _ s.scratch _

-- polygons of few corners are polygons of more
good_wider : {k nvp : ℕ} {ps : List Polygon} → nvp ≤ most_corners → All (Good (Below k) nvp) ps → All (Good (Below k) most_corners) ps
good_wider {k} {nvp} h a = all_imp (λ p (g : Good (Below k) nvp p). record { long = g.long; short = omega (arith, g.short, h); inside = g.inside }) a

pub stands_wider : {w : List ℕ} {s : Site} {n : Counts} {nvp : ℕ} → Stands w s n nvp → Stands w s n most_corners
stands_wider a = record {
  fits = a.fits;
  is = a.is;
  sound = record { good = good_wider a.most a.sound.good; marked = a.sound.marked; grid = a.sound.grid };
  least = omega arith;
  most = omega arith;
  vertices = a.vertices;
  spares = a.spares;
  v_few = a.v_few;
  t_few = a.t_few;
}

-- what a mesh must be to stand there
pub record Suits (s : Site) (nvp : ℕ) (m : Mesh) : Type 0 where
  pub sound : Sound nvp m
  pub least : 3 ≤ nvp
  pub most : nvp ≤ most_corners
  pub vertices : length m.vertices ≤ s.v
  pub spares : spares_in m.polygons ≤ s.t
  pub v_few : s.v < 2 ^ 32
  pub t_few : s.t < 2 ^ 27

module _ {s : Site} {nvp : ℕ} {m : Mesh} (k : Suits s nvp m) where
  suits_small : Every Small no_polygon m.polygons
  suits_small = small_good k.most k.sound.good

  pub size_vertices : length (vertex_records m.vertices m.marks) ≤ s.v * vertex_size
  size_vertices = omega (arith, length_vertex_records m.vertices m.marks, k.vertices)

  pub size_polygons : length (polygon_records m.polygons) ≤ s.t * polygon_size
  size_polygons =
      let few = polygons_few (all_imp (λ p (g : Good (Below (length m.vertices)) nvp p). g.long) k.sound.good) in
      omega (arith, length_records m.polygons suits_small, k.spares)

module _ {s : Site} {nvp : ℕ} {m : Mesh} (k : Suits s nvp m) where
  -- over another mesh
  pub mesh_in_again : {w : List ℕ} → Fits w s → (o : Mesh) → Suits s nvp o → mesh_in (mesh_in w s o) s m ≡ mesh_in w s m
  unfolding mesh_in standing
  mesh_in_again {w} f o j =
      shelved_again w s.vertices (s.v * vertex_size) _ s.polygons (s.t * polygon_size) _ s.scratch (s.t * scratch_room) _
      (record { second = f.vertices; third = f.polygons; end = f.scratch })
      (length_zeros (s.v * vertex_size) (vertex_records m.vertices m.marks) (size_vertices k))
      (length_zeros (s.t * polygon_size) (polygon_records m.polygons) (size_polygons k))
      (length_zeros (s.t * scratch_room) [] (omega arith))
      (with_zeros (s.v * vertex_size) (vertex_records o.vertices o.marks)) (with_zeros (s.t * polygon_size) (polygon_records o.polygons)) (with_zeros (s.t * scratch_room) [])
      (omega (arith, length_zeros (s.v * vertex_size) (vertex_records o.vertices o.marks) (size_vertices j)))
      (omega (arith, length_zeros (s.t * polygon_size) (polygon_records o.polygons) (size_polygons j)))
      (omega (arith, length_zeros (s.t * scratch_room) [] (omega arith)))

  module _ {w u : List ℕ} (f : Fits w s) (e : u ≡ mesh_in w s m) where
    stage : Stage w s u (vertex_records m.vertices m.marks) (polygon_records m.polygons) []
    unfolding mesh_in
    stage = record { is = e; vertices = size_vertices k; polygons = size_polygons k; scratch = omega arith }

    -- the mesh reads back
    pub mesh_read : mesh_at u s (counts_of m) ≡ m
    mesh_read =
        let a = vertices_read f m.vertices m.marks stage (length m.vertices) refl in
        let b = marks_read f m.vertices m.marks stage (length m.vertices) refl k.sound.marked in
        let c = polygons_read f m.polygons stage (length m.polygons) refl (suits_small k) in
        rw (a, b, c)

    pub stands_of : Stands u s (counts_of m) nvp
    stands_of = record {
      fits = stage_fits f stage;
      is = rw mesh_read (e ∙ sym (ap (λ (l : List ℕ). mesh_in l s m) e ∙ mesh_in_again f m k));
      sound = rw mesh_read k.sound;
      least = k.least;
      most = k.most;
      vertices = k.vertices;
      spares = subst (λ (x : Mesh). spares_in x.polygons ≤ s.t) (sym mesh_read) k.spares;
      v_few = k.v_few;
      t_few = k.t_few;
    }
