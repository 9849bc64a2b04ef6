-- One contour is added, step by step: what each step asks for, and what stands in the buffer after it. Assumes nothing.
-- Key: `stuck_words`: the mesh is as it was; `add_words` and `add_answer`: what all steps come to.
use Rattle.std.specs.Prelude.{Ok, Err}
use mathlib.Core.Path.{◌≡◌, refl, sym, ap, ◌∙◌}
use mathlib.Core.List.{List, [], ◌++◌}
use Prim.Native.Nat.{ℕ, ◌+◌, ◌-◌, ◌*◌, ◌^◌, ◌≤◌, ◌<◌}
use native.Mathlib.Omega.{arith}
use lib.ListN.{length, replicate, length-append, length-replicate}
use Rattle.mem.specs.Slice.{view, splice, splice_comm, splice_over}
use Rattle.mem.specs.Packed.{Every, every_at}
use Rattle.rules.specs.Plane.{on_plane, InGrid}
use Rattle.rules.specs.Ears.{Ears, done, stuck, triangulate}
use Rattle.rules.specs.Weld.{no_vertex, Welded, weld_all}
use Rattle.rules.specs.Mesh.{Polygon, no_polygon, place_of}
use Rattle.rules.specs.Job.{contour_vertices, contour_flags}
use Rattle.rules.specs.Build.{weld_height, add_contour}
use Rattle.rules.specs.declared.Vertex.{Vertex}
use Rattle.laws.specs.Lists.{All}
use Rattle.laws.proofs.Lists.{all_of_lem, every_of_all}
use Rattle.laws.specs.Weld.{Welds}
use Rattle.laws.proofs.Weld.{welded}
use Rattle.laws.proofs.Contours.{length_contour}
use Rattle.records.specs.Layout.{polygon_size, vertices_at, marks_at, polygons_at, polygon_records, Small}
use Rattle.records.specs.Vertices.{length_vertices, length_marks}
use Rattle.records.specs.Polygons.{length_polygons, length_records, records_append}
use Rattle.weld.specs.Tables.{welded_words, WeldReady, weld_of, WeldedTo}
use Rattle.weld.specs.Standing.{placed_after}
use Rattle.holes.specs.Fill.{cut_words, triangles_at}
use Rattle.holes.specs.Small.{small_good}
use Rattle.polys.specs.Rows.{row_size, wiped}
use Rattle.contours.specs.declared.ground.Ground.{Ground}
use Rattle.contours.specs.declared.ground.Contour.{Contour}
use Rattle.ears.specs.declared.cut.NoEar.{NoEar}
use Rattle.contours.specs.Cutting.{places_in, CutReady}
use Rattle.contours.specs.Shaping.{MeshReady, contour_polygons, MeshedTo}
use Rattle.contours.specs.Ground.{tables_of, ground_in, mesh_at, Fits}
use Rattle.contours.specs.Adding.{AddReady, grown_by, added_of, counts}
use Rattle.contours.proofs.Cuts.{all_three, triangle_count, triangles_there, long_cut}
use Rattle.contours.proofs.Stages.{Stage, room_in, stage_size, in_cutting, tables_stand, vertices_stand, marks_stand, write_cutting, wipe_cutting, wipe_numbers, more_polygons, write_tables, mesh_stage, stage_mesh}

pub grid_everywhere : {vs : List Vertex} → All (λ v. InGrid (on_plane v)) vs → (k : ℕ) → InGrid (place_of vs k)
unfolding place_of
grid_everywhere {vs} a k =
    every_at (λ v. InGrid (on_plane v)) no_vertex vs (every_of_all (λ v. InGrid (on_plane v)) no_vertex (record { x_small = omega arith; z_small = omega arith }) a) k

module _ {w ns : List ℕ} {g : Ground} {nv np nvp : ℕ} {c : Contour} (r : AddReady w ns g nv np nvp c) where
  f : Fits (length w) g
  f = r.stands.fits

  few : g.v < 2 ^ 28
  few = r.stands.few

  old_vertices : length (vertices_at w g.vertices nv) ≡ nv
  old_vertices = length_vertices w g.vertices nv

  old_even : length (marks_at w g.vertices nv) ≡ length (vertices_at w g.vertices nv)
  old_even = length_marks w g.vertices nv ∙ sym old_vertices

  P : List ℕ
  P = polygon_records (polygons_at w g.polygons np)

  long_P : length P ≡ np * polygon_size
  unfolding P
  long_P =
      length_records (polygons_at w g.polygons np) (small_good r.stands.most r.stands.sound.good)
      ∙ ap (λ (k : ℕ). k * polygon_size) (length_polygons w g.polygons np)

  start : Stage (length w) g w (vertices_at w g.vertices nv) (marks_at w g.vertices nv) P [] []
  unfolding P
  start = mesh_stage (length w) g (mesh_at w g nv np) r.stands.is (omega (arith, old_vertices, r.vertices)) (omega (arith, long_P, r.polygons))

  pub contour_cut_ready : CutReady w ns c.first c.n (g.scratch + g.v)
  contour_cut_ready = record {
    lay = record { input = r.input; fits = omega (arith, r.vertices, f.scratch) };
    some = r.some;
    few = omega (arith, r.vertices, few);
    room = omega (arith, r.vertices, f.scratch);
    grid = r.grid;
  }

  -- the contour is cut
  module _ {u : List ℕ} (e : u ≡ splice w (g.scratch + g.v) (cut_words c.n (places_in ns c.first c.n) (triangulate (places_in ns c.first c.n)))) where
    module _ (t : Ears) (d : triangulate (places_in ns c.first c.n) ≡ t) where
      C : List ℕ
      C = cut_words c.n (places_in ns c.first c.n) t

      long_C : length C ≡ c.n * 6 - 6
      unfolding C
      long_C = long_cut ns c.first c.n r.some (omega (arith, r.vertices, few)) t d

      cut_stage : Stage (length w) g u (vertices_at w g.vertices nv) (marks_at w g.vertices nv) P [] C
      unfolding C
      cut_stage = write_cutting f few start refl (e ∙ rw d refl) (omega (arith, long_C, r.vertices))

    -- it has no ear
    module _ {no : NoEar} (d : triangulate (places_in ns c.first c.n) ≡ stuck no.after) where
      pub stuck_words : {x : List ℕ} → x ≡ splice u (g.scratch + g.v) (replicate (c.n * 6 - 6) 0)
          → x ≡ ground_in (length w) g (grown_by nvp ns c (mesh_at w g nv np) (triangulate (places_in ns c.first c.n)))
      unfolding grown_by P
      stuck_words q = rw d (stage_mesh (mesh_at w g nv np) (wipe_cutting f few (cut_stage (stuck no.after) d) (c.n * 6 - 6) (long_C (stuck no.after) d) q))

      pub stuck_answer : Err no ≡ added_of (grown_by nvp ns c (mesh_at w g nv np) (triangulate (places_in ns c.first c.n))) (triangulate (places_in ns c.first c.n))
      unfolding added_of
      stuck_answer = rw d refl

    -- its triangles are ts
    module _ (ts : List (List ℕ)) (d : triangulate (places_in ns c.first c.n) ≡ done ts) where
      cut : Stage (length w) g u (vertices_at w g.vertices nv) (marks_at w g.vertices nv) P [] (C (done ts) d)
      cut = cut_stage (done ts) d

      many : length ts ≡ c.n - 2
      many = triangle_count ns c.first c.n r.some (omega (arith, r.vertices, few)) ts d

      size_u : length u ≡ length w
      size_u = stage_size f few cut

      seen_vertices : vertices_at u g.vertices nv ≡ vertices_at w g.vertices nv
      seen_vertices = vertices_stand f few cut nv old_vertices old_even

      seen_marks : marks_at u g.vertices nv ≡ marks_at w g.vertices nv
      seen_marks = marks_stand f few cut nv old_vertices old_even

      pub contour_weld_ready : WeldReady u ns (tables_of g) nv g.scratch c.first c.n
      contour_weld_ready = record {
        now = tables_stand f few cut nv old_vertices old_even;
        room = room_in f few size_u (nv + c.n) r.vertices;
        behind = omega (arith, r.vertices, f.nexts, f.polygons);
        numbers = omega (arith, size_u, r.vertices, f.scratch);
        input = r.input;
      }

      -- its vertices are welded
      module _ {x : List ℕ} {v : ℕ} (y : WeldedTo weld_height u x ns (tables_of g) nv g.scratch c.first c.n v) where
        S : Welded
        S = weld_all weld_height (contour_vertices ns c.first c.n) (contour_flags ns c.first c.n)
            (record { vertices = vertices_at w g.vertices nv; marks = marks_at w g.vertices nv; numbers = [] })

        is_S : weld_of weld_height u ns (tables_of g) nv c.first c.n ≡ S
        unfolding weld_of S
        is_S = rw (seen_vertices, seen_marks) refl

        W : Welds (vertices_at w g.vertices nv) (contour_vertices ns c.first c.n) (length (contour_vertices ns c.first c.n)) S
        unfolding S
        W = welded weld_height (contour_vertices ns c.first c.n) (contour_flags ns c.first c.n) _ old_even refl

        long : length (contour_vertices ns c.first c.n) ≡ c.n
        long = length_contour ns c.first c.n

        count : v ≡ length S.vertices
        count = y.count ∙ ap (λ (s : Welded). length s.vertices) is_S

        listed : length S.numbers ≡ c.n
        listed = W.listed ∙ long

        more : length (vertices_at w g.vertices nv) ≤ length S.vertices
        more = omega (arith, ap length W.grown, length-append (vertices_at w g.vertices nv) W.more)

        most : length S.vertices ≤ g.v
        most = omega (arith, count, y.grew, r.vertices)

        weld_stage : Stage (length w) g x S.vertices S.marks P S.numbers (C (done ts) d)
        unfolding welded_words
        weld_stage = write_tables f few cut S.vertices S.marks refl more most (omega (arith, listed, r.vertices)) (rw is_S at y.is)

        size_x : length x ≡ length w
        size_x = stage_size f few weld_stage

        welded_vertices : vertices_at x g.vertices v ≡ S.vertices
        welded_vertices = y.vertices ∙ ap (λ (s : Welded). s.vertices) is_S

        welded_numbers : view x g.scratch c.n ≡ S.numbers
        welded_numbers = y.numbers ∙ ap (λ (s : Welded). s.numbers) is_S

        triangles : triangles_at x (g.scratch + g.v + c.n * 3) (length ts) ≡ ts
        unfolding C
        triangles =
            ap (λ (l : List ℕ). triangles_at l (g.scratch + g.v + c.n * 3) (length ts)) (in_cutting f few weld_stage)
            ∙ triangles_there ns c.first c.n r.some (omega (arith, r.vertices, few)) ts d x (g.scratch + g.v) (omega (arith, size_x, r.vertices, f.scratch))

        pub contour_mesh_ready : {k : ℕ} → k ≡ length ts
            → MeshReady x g.vertices v (g.polygons + np * polygon_size) g.scratch c.n (g.scratch + g.v + c.n * 3) k nvp (g.scratch + g.v)
        contour_mesh_ready {k} q = record {
          shape = record {
            front = omega (arith, many, r.polygons, f.polygons);
            behind = omega (arith, r.vertices);
            fits = omega (arith, many, size_x, r.vertices, f.scratch, r.some);
            within = rw (q, triangles) (all_three ns c.first c.n r.some (omega (arith, r.vertices, few)) ts d);
          };
          placed = placed_after weld_height u ns (tables_of g) nv g.scratch c.first c.n y
              (record { fits = omega (arith, size_u, r.vertices, f.vertices, f.nexts, f.polygons, f.scratch); grid = rw seen_vertices (grid_everywhere r.stands.sound.grid) })
              r.grid;
          before = omega (arith, count, most, f.vertices, f.nexts);
          named = rw welded_numbers (all_of_lem S.numbers 0 (λ i h. omega (arith, count, (W.took i (omega (arith, W.listed))).below)));
          least = r.stands.least;
          most = r.stands.most;
          few = omega (arith, q, many, r.vertices, few);
          clear = omega (arith, r.vertices);
          room = omega (arith, q, many, size_x, r.vertices, f.scratch, r.some);
        }

        -- its triangles are made polygons
        module _ {z : List ℕ} {k p : ℕ} (q : k ≡ length ts)
            (m : MeshedTo x z g.vertices v (g.polygons + np * polygon_size) g.scratch c.n (g.scratch + g.v + c.n * 3) k nvp c.region c.code p) where
          new : List Polygon
          new = contour_polygons S.vertices nvp S.numbers c.region c.code ts

          new_count : p ≡ length new
          unfolding new
          new_count = rw (welded_vertices, welded_numbers, q, triangles) at m.count

          new_small : Every Small no_polygon new
          unfolding new
          new_small = rw (welded_vertices, welded_numbers, q, triangles) at m.small

          new_words : z ≡ splice x (g.polygons + np * polygon_size) (polygon_records new ++ replicate ((length ts - p) * polygon_size) 0)
          unfolding new
          new_words = rw (welded_vertices, welded_numbers, q, triangles) at m.is

          mesh_stage' : Stage (length w) g z S.vertices S.marks (P ++ polygon_records new) S.numbers (C (done ts) d)
          mesh_stage' = more_polygons f few weld_stage (polygon_records new) ((length ts - p) * polygon_size)
              (omega (arith, long_P, length_records new new_small, new_count, q, m.fewer, many, r.polygons)) (rw (← long_P) at new_words)

          joined : P ++ polygon_records new ≡ polygon_records (polygons_at w g.polygons np ++ new)
          unfolding P
          joined = sym (records_append (polygons_at w g.polygons np) new)

          pub polygons_fit : np + p ≤ length w
          polygons_fit = omega (arith, q, m.fewer, many, r.polygons, f.polygons, f.scratch)

          -- what was written besides is wiped
          pub add_words : {a b : List ℕ} → a ≡ splice z g.scratch (replicate c.n 0) → b ≡ splice a (g.scratch + g.v) (replicate (c.n * 6 - 6) 0)
              → b ≡ ground_in (length w) g (grown_by nvp ns c (mesh_at w g nv np) (triangulate (places_in ns c.first c.n)))
          unfolding grown_by add_contour contour_polygons new S
          add_words ea eb =
              rw d (stage_mesh (add_contour weld_height nvp c.region c.code (contour_vertices ns c.first c.n) (contour_flags ns c.first c.n) ts (mesh_at w g nv np))
              (rw joined at (wipe_cutting f few (wipe_numbers f few mesh_stage' c.n listed ea) (c.n * 6 - 6) (long_C (done ts) d) eb)))

          -- the same, where the merge left zeros in the place of its rows
          pub add_over : {t a b : List ℕ} → t ≡ wiped z (g.scratch + g.v) k → a ≡ splice t g.scratch (replicate c.n 0)
              → b ≡ splice a (g.scratch + g.v) (replicate (c.n * 6 - 6) 0)
              → b ≡ ground_in (length w) g (grown_by nvp ns c (mesh_at w g nv np) (triangulate (places_in ns c.first c.n)))
          unfolding wiped
          add_over {t} {a} {b} et ea eb =
              let po = g.scratch + g.v in
              let xs : List ℕ = replicate (k * row_size) 0 in
              let ys : List ℕ = replicate c.n 0 in
              let zs : List ℕ = replicate (c.n * 6 - 6) 0 in
              let ly : length ys ≡ c.n = length-replicate c.n 0 in
              let lx : length xs ≡ k * row_size = length-replicate (k * row_size) 0 in
              let lz : length zs ≡ c.n * 6 - 6 = length-replicate (c.n * 6 - 6) 0 in
              add_words {a = splice z g.scratch ys} refl (eb ∙ ap (λ (i : List ℕ). splice i po zs)
              (ea ∙ ap (λ (i : List ℕ). splice i g.scratch ys) et ∙ sym (splice_comm z g.scratch po ys xs (omega (arith, r.vertices))))
              ∙ splice_over (splice z g.scratch ys) po xs zs (omega (arith, lx, lz, q, many, r.some)))

          pub add_answer : Ok (counts v (np + p)) ≡ added_of (grown_by nvp ns c (mesh_at w g nv np) (triangulate (places_in ns c.first c.n))) (triangulate (places_in ns c.first c.n))
          unfolding added_of grown_by add_contour contour_polygons new S
          add_answer =
              let n : np + p ≡ length (polygons_at w g.polygons np ++ new) = simp length-append (omega (arith, new_count, length_polygons w g.polygons np)) in
              rw (d, count, n) refl
