-- The hole is filled, or there is no ear to cut: what stands in the mesh's place then. Assumes nothing.
-- Key: `fill_ready`: the hole can be filled; `filled_words` and `empty_words`: what stands there at the end.
use Rattle.std.specs.Prelude.{Some, None, max}
use mathlib.Core.Path.{◌≡◌, refl, sym, ap, ap₂, subst, ◌∙◌}
use mathlib.Core.Bool.{cond}
use mathlib.Core.Logic.{⊎_elim}
use mathlib.Core.List.{List, [], ◌++◌, append-nil, append_assoc}
use Prim.Native.Nat.{ℕ, suc, ◌+◌, ◌-◌, ◌*◌, ◌≤◌, ◌<◌}
use native.Mathlib.Omega.{arith}
use borrow.Author.Tests.{lt-ltb, le-ltb}
use lib.Dec.{ltb}
use lib.ListN.{length, drop, replicate, length-append, length-drop, length-replicate}
use Rattle.mem.specs.Cases.{lt_or_le}
use Rattle.mem.specs.Slice.{splice}
use Rattle.mem.specs.Packed.{Every, every_at, every_append, packed}
use Rattle.mem.specs.Tab.{tab}
use Rattle.mem.specs.Zeros.{zeros_put, zeros_in, zeros_behind}
use Rattle.rules.specs.Lists.{without}
use Rattle.rules.specs.Plane.{InGrid, on_plane}
use Rattle.rules.specs.Weld.{no_vertex}
use Rattle.rules.specs.Ears.{Ears, done, stuck, triangulate}
use Rattle.rules.specs.Mesh.{Polygon, no_polygon, place_of}
use Rattle.rules.specs.Removal.{polygons_left, places_of, fill_hole, remove_vertex}
use Rattle.rules.specs.Removal as Rules
use Rattle.rules.specs.declared.Vertex.{Vertex}
use Rattle.rules.specs.declared.ChainPoint.{ChainPoint}
use Rattle.laws.proofs.Lists.{all_without, every_of_all, length_without}
use Rattle.laws.specs.Merge.{Below}
use Rattle.laws.proofs.Merge.{polygons_few}
use Rattle.laws.proofs.Removal.{filled, hole_corners}
use Rattle.records.specs.Layout.{vertex_size, vertices_at, marks_at, with_marks, vertex_records, polygon_size, most_corners, polygons_at, polygon_records, Small, point_size, points_at, point_records}
use Rattle.records.specs.Vertices.{length_vertices, length_vertex_records}
use Rattle.records.specs.Polygons.{length_polygons, length_records, records_append}
use Rattle.records.specs.Blanks.{blanks_small}
use Rattle.records.specs.Fixed.{point_fixed, fixed_length}
use Rattle.trails.specs.Trails.{walk_room}
use Rattle.holes.specs.Fill.{FillReady, hole_polygons, filled_of, filled_in}
use Rattle.removals.specs.declared.site.Site.{Site}
use Rattle.records.specs.declared.counts.Counts.{Counts}
use Rattle.removals.specs.declared.open.Hole.{Hole}
use Rattle.removals.specs.Site.{mesh_at, scratch_room, standing, mesh_in, Fits}
use Rattle.removals.specs.Removing.{RemoveReady, hole_around, opened_in, OpenedTo, removed_to, mesh_after}
use Rattle.removals.specs.Stages.{Stage, stage_size, write_polygons, write_scratch, anew_vertices, anew_polygons, anew_scratch, stage_fits, vertices_read, scratch_read}
use Rattle.removals.proofs.Opens.{stands_few}
use Rattle.removals.specs.Standing.{stands_wider}
use Rattle.holes.specs.Small.{small_good}
use Rattle.laws.specs.Left.{Left}
use Rattle.laws.proofs.Left.{left_over}

pub open_ready : {w : List ℕ} {s : Site} {n : Counts} {nvp rem : ℕ} → RemoveReady w s n nvp rem → RemoveReady w s n most_corners rem
open_ready r = record { stands = stands_wider r.stands; below = r.below; may = r.may }

no_vertices : vertex_records [] [] ≡ []
unfolding vertex_records with_marks packed tab
no_vertices = refl

no_polygons : polygon_records [] ≡ []
unfolding polygon_records packed
no_polygons = refl

-- ---- the answer of the filling

pub record WasFilled (vs : List Vertex) (nvp : ℕ) (hole : List ChainPoint) (t : Ears) (k : ℕ) : Type 0 where
  pub ts : List (List ℕ)
  pub is : t ≡ done ts
  pub count : k ≡ length (hole_polygons vs nvp hole ts)

pub record WasEmpty (t : Ears) : Type 0 where
  pub k : ℕ
  pub is : t ≡ stuck k

was_filled : (vs : List Vertex) (nvp : ℕ) (hole : List ChainPoint) (t : Ears) (k : ℕ) → Some k ≡ filled_of vs nvp hole t → WasFilled vs nvp hole t k
unfolding filled_of
was_filled vs nvp hole (done ts) k e = record { ts = ts; is = refl; count = cc }
was_filled vs nvp hole (stuck j) k e = cc

was_empty : (vs : List Vertex) (nvp : ℕ) (hole : List ChainPoint) (t : Ears) → None ≡ filled_of vs nvp hole t → WasEmpty t
unfolding filled_of
was_empty vs nvp hole (done ts) e = cc
was_empty vs nvp hole (stuck j) e = record { k = j; is = refl }

-- ---- the hole can be filled

module _ {w : List ℕ} {s : Site} {n : Counts} {nvp rem : ℕ} (r : RemoveReady w s n nvp rem) {u : List ℕ} {h : Hole} (x : OpenedTo w u s n rem h) where
  vs : List Vertex
  vs = without (vertices_at w s.vertices n.vertices) rem

  ms : List ℕ
  ms = without (marks_at w s.vertices n.vertices) rem

  pl : List Polygon
  pl = polygons_left rem (polygons_at w s.polygons n.polygons)

  bl : List Polygon
  bl = replicate (n.polygons - h.left) no_polygon

  hole : List ChainPoint
  hole = hole_around rem (mesh_at w s n)

  f : Fits w s
  f = r.stands.fits

  over : Left nvp rem (mesh_at w s n)
  over = left_over nvp rem (mesh_at w s n) (rw (length_vertices w s.vertices n.vertices) r.below) r.stands.sound r.may

  count : length vs ≡ n.vertices - 1
  unfolding vs
  count =
      let e = length_vertices w s.vertices n.vertices in
      length_without (vertices_at w s.vertices n.vertices) rem (rw e r.below) ∙ rw e

  left : h.left ≡ length pl
  unfolding pl
  left = x.left

  points : h.points ≡ length hole
  unfolding hole
  points = x.points

  -- how many points and polygons there can be
  pub least : 3 ≤ h.points
  unfolding hole hole_around
  least = omega (arith, points, over.least)

  pub most : h.left + h.points ≤ suc s.t
  unfolding hole hole_around pl
  most = omega (arith, left, points, over.most, r.stands.spares)

  -- the hole's polygons have a place
  pub at_fits : s.polygons + h.left * polygon_size ≤ length w
  at_fits = omega (arith, most, least, f.polygons, f.scratch)

  small_left : Every Small no_polygon pl
  unfolding pl
  small_left = small_good r.stands.most over.good

  small_blank : Every Small no_polygon bl
  unfolding bl
  small_blank = blanks_small (n.polygons - h.left)

  size : length (polygon_records (pl ++ bl)) ≡ n.polygons * polygon_size
  unfolding bl
  size =
      length_records (pl ++ bl) (every_append Small no_polygon pl bl small_left small_blank)
      ∙ ap (λ (k : ℕ). k * polygon_size) (simp (length-append, length-replicate) (omega (arith, left, x.fewer)))

  stage : Stage w s u (vertex_records vs ms) (polygon_records (pl ++ bl)) (point_records hole)
  unfolding opened_in vs ms pl bl hole
  stage =
      let k = length_vertex_records vs ms in
      let i = fixed_length point_fixed hole in
      record {
        is = x.is ∙ rw (length_polygons w s.polygons n.polygons, ← x.left);
        vertices = omega (arith, count, r.stands.vertices);
        polygons = omega (arith, size, stands_few r.stands);
        scratch = omega (arith, points, least, most);
      }

  read_vertices : vertices_at u s.vertices (n.vertices - 1) ≡ vs
  read_vertices = vertices_read f vs ms stage (n.vertices - 1) count

  read_points : points_at u s.scratch h.points ≡ hole
  read_points = scratch_read point_fixed f hole stage h.points (sym points)

  grid_left : (k : ℕ) → InGrid (place_of vs k)
  unfolding vs place_of
  grid_left k =
      every_at (λ v. InGrid (on_plane v)) no_vertex (without (vertices_at w s.vertices n.vertices) rem)
      (every_of_all (λ v. InGrid (on_plane v)) no_vertex (record { x_small = omega arith; z_small = omega arith })
      (all_without (vertices_at w s.vertices n.vertices) rem r.stands.sound.grid)) k

  -- the hole can be filled
  pub fill_ready : FillReady u s.vertices (n.vertices - 1) (s.polygons + h.left * polygon_size) s.scratch h.points (s.scratch + s.t * walk_room) nvp
  unfolding hole hole_around vs
  fill_ready =
      let l = stage_size f stage in
      record {
        cut = record {
          lay = record {
            placed = record { fits = omega (arith, l, f.vertices, f.polygons, f.scratch, r.stands.vertices); grid = rw read_vertices grid_left };
            before = omega (arith, f.vertices, f.polygons, r.stands.vertices);
            behind = omega (arith, least, most);
            fits = omega (arith, l, least, most, f.scratch);
            named = rw (read_points, ← count) over.inside;
          };
          some = least;
          few = omega (arith, most, r.stands.t_few);
          room = omega (arith, l, least, most, f.scratch);
        };
        before = omega (arith, f.vertices, r.stands.vertices);
        front = omega (arith, least, most, f.polygons);
        least = r.stands.least;
        most = r.stands.most;
      }

  -- ---- and what it is filled with

  module _ {y : List ℕ}
      (e : y ≡ filled_in u (vertices_at u s.vertices (n.vertices - 1)) nvp (s.polygons + h.left * polygon_size) (s.scratch + s.t * walk_room) (points_at u s.scratch h.points)
      (triangulate (places_of (vertices_at u s.vertices (n.vertices - 1)) (points_at u s.scratch h.points)))) where
    -- no ear to cut
    module _ (a : None ≡ filled_of (vertices_at u s.vertices (n.vertices - 1)) nvp (points_at u s.scratch h.points)
        (triangulate (places_of (vertices_at u s.vertices (n.vertices - 1)) (points_at u s.scratch h.points)))) where
      none : WasEmpty (triangulate (places_of vs hole))
      none = was_empty vs nvp hole (triangulate (places_of vs hole)) (rw (read_vertices, read_points) at a)

      nothing : remove_vertex nvp rem (mesh_at w s n) ≡ Rules.no_ears
      unfolding remove_vertex fill_hole vs hole hole_around
      nothing = rw none.is

      empty_stage : Stage w s y (vertex_records vs ms) (polygon_records (pl ++ bl)) (point_records hole)
      unfolding filled_in
      empty_stage =
          let d = rw (read_vertices, read_points, none.is) at e in
          let i = fixed_length point_fixed hole in
          write_scratch f stage (s.t * walk_room) (replicate (length hole * 6 - 6) 0) d (rw length-replicate (omega (arith, points, least, most)))
          (zeros_behind (s.t * scratch_room) (point_records hole) (s.t * walk_room) (length hole * 6 - 6) (omega (arith, points, least, most)) (omega (arith, points, least, most)))
          stage.scratch

      pub empty_fits : Fits y s × (s.scratch + h.points * point_size ≤ length y)
      empty_fits = (stage_fits f empty_stage, omega (arith, least, most, stage_size f empty_stage, f.scratch))

      pub empty_answer : None ≡ removed_to (remove_vertex nvp rem (mesh_at w s n))
      unfolding removed_to
      empty_answer = rw nothing

      pub empty_words : {z : List ℕ}
          → z ≡ splice (splice (splice y s.vertices (replicate (s.v * vertex_size) 0)) s.polygons (replicate (s.t * polygon_size) 0)) s.scratch (replicate (h.points * point_size) 0)
          → z ≡ mesh_in w s (mesh_after (remove_vertex nvp rem (mesh_at w s n)))
      unfolding mesh_after mesh_in
      empty_words q =
          let a = anew_vertices f empty_stage [] (s.v * vertex_size) refl (omega (arith, empty_stage.vertices)) (omega arith) in
          let b = anew_polygons f a [] (s.t * polygon_size) refl (omega (arith, empty_stage.polygons)) (omega arith) in
          let i = fixed_length point_fixed hole in
          let d = anew_scratch f b [] (h.points * point_size) q (omega (arith, points)) (omega (arith, least, most)) in
          d.is ∙ rw (nothing, no_vertices, no_polygons)

    -- it is filled with k polygons
    module _ {k : ℕ} (a : Some k ≡ filled_of (vertices_at u s.vertices (n.vertices - 1)) nvp (points_at u s.scratch h.points)
        (triangulate (places_of (vertices_at u s.vertices (n.vertices - 1)) (points_at u s.scratch h.points)))) where
      some : WasFilled vs nvp hole (triangulate (places_of vs hole)) k
      some = was_filled vs nvp hole (triangulate (places_of vs hole)) k (rw (read_vertices, read_points) at a)

      hp : List Polygon
      hp = hole_polygons vs nvp hole some.ts

      kl : List Polygon
      kl = replicate (length hole - 2 - length hp) no_polygon

      counted : k ≡ length hp
      unfolding hp
      counted = some.count

      small_filled : Every Small no_polygon hp
      unfolding hp hole_polygons vs hole hole_around
      small_filled =
          small_good r.stands.most (filled vs (Below (length vs)) nvp hole some.ts r.stands.least over.inside over.least (omega (arith, points, most, r.stands.t_few)) some.is).good

      -- no more polygons than triangles
      fewer : k + 2 ≤ h.points
      unfolding hp hole_polygons
      fewer =
          let c = hole_corners vs nvp hole some.ts r.stands.least (omega (arith, points, least)) some.is in
          omega (arith, polygons_few c.long, c.spares, counted, points, least)

      pub filled_few : h.left + k ≤ s.t
      filled_few = omega (arith, fewer, most)

      size_left : length (polygon_records pl) ≡ h.left * polygon_size
      size_left = length_records pl small_left ∙ ap (λ (j : ℕ). j * polygon_size) (sym left)

      size_filled : length (polygon_records hp) ≡ k * polygon_size
      size_filled = length_records hp small_filled ∙ ap (λ (j : ℕ). j * polygon_size) (sym counted)

      size_blank : length (polygon_records kl) ≡ (h.points - 2 - k) * polygon_size
      unfolding kl
      size_blank = length_records kl (blanks_small (length hole - 2 - length hp)) ∙ ap (λ (j : ℕ). j * polygon_size) (length-replicate (length hole - 2 - length hp) no_polygon ∙ ap₂ (λ (i j : ℕ). i - 2 - j) (sym points) (sym counted))

      P : List ℕ
      P = polygon_records pl

      Q : List ℕ
      Q = polygon_records bl

      H : List ℕ
      H = polygon_records hp

      K : List ℕ
      K = polygon_records kl

      -- what was left of the blank records, if the triangles were fewer
      rest : List ℕ
      rest = drop (length (H ++ K)) Q

      size_in : length (H ++ K) ≡ (h.points - 2) * polygon_size
      unfolding H K
      size_in = length-append (polygon_records hp) (polygon_records kl) ∙ omega (arith, size_filled, size_blank, fewer)

      -- the words that were written
      filled_in_lem : y ≡ splice (splice u (s.polygons + h.left * polygon_size) (polygon_records (hp ++ kl))) (s.scratch + s.t * walk_room) (replicate (length hole * 6 - 6) 0)
      unfolding filled_in hp kl
      filled_in_lem = rw (read_vertices, read_points, some.is) at e

      size_rest : length (P ++ ((H ++ K) ++ rest)) ≤ s.t * polygon_size
      unfolding rest Q P bl
      size_rest =
          let a = length-append P ((H ++ K) ++ rest) in
          let b = length-append (H ++ K) rest in
          let c = length-drop (length (H ++ K)) Q in
          let q = length_records bl small_blank in
          let l = length-replicate (n.polygons - h.left) no_polygon in
          omega (arith, size_in, size_left, most, least, stands_few r.stands)

      placed_stage : Stage w s (splice u (s.polygons + h.left * polygon_size) (polygon_records (hp ++ kl))) (vertex_records vs ms) (P ++ ((H ++ K) ++ rest)) (point_records hole)
      unfolding P Q H K rest
      placed_stage =
          let c = length-append (polygon_records pl) (polygon_records bl) in
          write_polygons f stage (h.left * polygon_size) (polygon_records (hp ++ kl)) refl (rw (records_append hp kl) (omega (arith, size_in, most, least)))
          (rw (records_append pl bl, records_append hp kl, ← size_left) (zeros_in (s.t * polygon_size) (polygon_records pl) (polygon_records bl) (polygon_records hp ++ polygon_records kl)
          (omega (arith, size_left, size_in, most, least)) (omega (arith, stage.polygons, ap length (records_append pl bl)))))
          size_rest

      filled_stage : Stage w s y (vertex_records vs ms) (P ++ ((H ++ K) ++ rest)) (point_records hole)
      filled_stage =
          let d = filled_in_lem in
          let room = most in
          write_scratch f placed_stage (s.t * walk_room) (replicate (length hole * 6 - 6) 0) d (rw length-replicate (omega (arith, points, least, most)))
          (zeros_behind (s.t * scratch_room) (point_records hole) (s.t * walk_room) (length hole * 6 - 6)
          (omega (arith, points, least, most, fixed_length point_fixed hole)) (omega (arith, points, least, most)))
          stage.scratch

      module _ {far : ℕ} (g : far ≡ max n.polygons (h.left + (h.points - 2))) where
        far_cases : (n.polygons ≤ far) × (h.left + (h.points - 2) ≤ far) × (far ≤ s.t)
        far_cases = (omega arith, omega arith, omega (arith, most, least, stands_few r.stands))

        pub tidy_ready : (h.left + k ≤ far) × (s.polygons + far * polygon_size ≤ s.scratch) × (s.scratch + h.points * point_size ≤ length y)
        tidy_ready =
            (omega (arith, fewer, far_cases), omega (arith, far_cases, f.polygons), omega (arith, least, most, f.scratch, stage_size f filled_stage))

        pub filled_answer : Some (h.left + k) ≡ removed_to (remove_vertex nvp rem (mesh_at w s n))
        unfolding removed_to remove_vertex fill_hole vs hole hole_around pl hp hole_polygons
        filled_answer = rw some.is (ap Some (omega (arith, left, counted, length-append pl hp)))

        -- zeros over the blank records
        size_both : length (P ++ H) ≡ (h.left + k) * polygon_size
        unfolding P H
        size_both = length-append (polygon_records pl) (polygon_records hp) ∙ omega (arith, size_left, size_filled)

        size_over : length (K ++ rest) ≤ (far - (h.left + k)) * polygon_size
        unfolding rest K Q bl
        size_over =
            let b = length-append K rest in
            let c = length-drop (length (H ++ K)) Q in
            let v = length_records bl small_blank in
            let l = length-replicate (n.polygons - h.left) no_polygon in
            omega (arith, size_in, size_blank, far_cases, fewer, x.fewer)

        kept_stage : Stage w s (splice y (s.polygons + (h.left + k) * polygon_size) (replicate ((far - (h.left + k)) * polygon_size) 0)) (vertex_records vs ms) ((P ++ H) ++ []) (point_records hole)
        kept_stage =
            let j = (far - (h.left + k)) * polygon_size in
            let a : P ++ ((H ++ K) ++ rest) ≡ (P ++ H) ++ (K ++ rest) = rw (append_assoc H K rest) (sym (append_assoc P H (K ++ rest))) in
            write_polygons f filled_stage ((h.left + k) * polygon_size) (replicate j 0) refl (rw length-replicate (omega (arith, far_cases, fewer)))
            (rw (a, ← size_both) (zeros_put (s.t * polygon_size) (P ++ H) (K ++ rest) [] j (omega (arith, size_over)) (omega (arith, size_both, far_cases, fewer))))
            (rw append-nil (omega (arith, size_both, far_cases, fewer)))

        both : (P ++ H) ++ [] ≡ polygon_records (pl ++ hp)
        unfolding P H
        both = append-nil (polygon_records pl ++ polygon_records hp) ∙ sym (records_append pl hp)

        after : mesh_after (remove_vertex nvp rem (mesh_at w s n)) ≡ record { vertices = vs; marks = ms; polygons = pl ++ hp }
        unfolding mesh_after remove_vertex fill_hole vs ms hole hole_around pl hp hole_polygons
        after = rw some.is

        pub filled_words : {z : List ℕ}
            → z ≡ splice (splice y (s.polygons + (h.left + k) * polygon_size) (replicate ((far - (h.left + k)) * polygon_size) 0)) s.scratch (replicate (h.points * point_size) 0)
            → z ≡ mesh_in w s (mesh_after (remove_vertex nvp rem (mesh_at w s n)))
        unfolding mesh_in
        filled_words q =
            let i = fixed_length point_fixed hole in
            let d = anew_scratch f kept_stage [] (h.points * point_size) q (omega (arith, points)) (omega (arith, least, most)) in
            d.is ∙ ap (λ (l : List ℕ). standing w s (vertex_records vs ms) l []) both ∙ ap (mesh_in w s) (sym after)
