-- The contours: each adds its area and its length minus 2 spare corners to the mesh, whose other polygons keep theirs. Assumes nothing.
-- Key: `contour_added` for one contour, `contours_added` for all; `contour_corners`: its polygons' corners.
use Rattle.std.specs.Prelude.{ℕ, zero, suc, ◌+◌, ◌-◌, ◌^◌, ◌≤◌, ◌<◌, ◌≡◌, Bool, true, false, List, [], ◌∷◌, ◌++◌, map, ltb, length, get_or, drop, ℤ, pos, ◌+ℤ◌}
use Rattle.std.proofs.Common.{arith, add-one, sym, ◌∙◌, ap₂, subst, ltb-true, ltb-false, le-leb, length-append, drop_of_length-le, drop-cons}
use Rattle.std.proofs.Math.Path.{refl, ap}
use Rattle.std.proofs.lemmas.Bool.{lt-leb}
use Rattle.std.proofs.Math.ListN.{length-map, get_or-append}
use Rattle.std.proofs.Math.IntN.{+ℤ_idl, +ℤ_idr, +ℤ_assoc}
use Rattle.mem.specs.Loops.{over_turn, over_end}
use Rattle.mem.specs.Tab.{length_tab, get_or_tab}
use Rattle.rules.specs.declared.Point.{Point}
use Rattle.rules.specs.declared.Vertex.{Vertex}
use Rattle.rules.specs.Plane.{area, origin, on_plane, InGrid}
use Rattle.rules.specs.Ears.{Ears, done, stuck, triangulate}
use Rattle.rules.specs.Weld.{no_vertex, Welded, weld_all}
use Rattle.rules.specs.Mesh.{Polygon, Mesh, place_of}
use Rattle.rules.specs.Merge.{merge_all}
use Rattle.rules.specs.Job.{Job, vertex_at, count_all, contour_vertices, contour_flags}
use Rattle.rules.specs.Build.{weld_height, contour_triangle, add_contour, added, no_ear_in, add_from}
use Rattle.rules.specs.Areas.{points_of, polygon_area, mesh_area, contour_areas}
use Rattle.laws.specs.Measures.{area_of, spare_of, spares_in}
use Rattle.laws.specs.Lists.{All, none, more}
use Rattle.laws.proofs.Lists.{all_append, all_imp, all_map, map_same, get_or_map_in, sum_append, sum_same, sum_map, total_append}
use Rattle.laws.proofs.Sides.{area_few}
use Rattle.laws.specs.Ears.{Triangle, triangle, cut_area}
use Rattle.laws.proofs.Ears.{triangulated}
use Rattle.laws.proofs.CutTurns.{triangles_counted, triangles_three}
use Rattle.laws.specs.Weld.{OneOf, Welds}
use Rattle.laws.proofs.Weld.{welded}
use Rattle.laws.specs.Merge.{Good, Below, Corners}
use Rattle.laws.proofs.Merge.{merged, triangles_merged}
use Rattle.laws.specs.Checks.{Passed, points_in, triangles_in}
use Rattle.laws.proofs.Checks.{length_small}
use Rattle.laws.specs.Removal.{Sound}
use Rattle.laws.specs.Contours.{Grown, left, Grows}

-- ---- polygons of a mesh to which vertices are added

place_more : (vs t : List Vertex) (c : ℕ) → c < length vs → place_of (vs ++ t) c ≡ place_of vs c
unfolding place_of
place_more vs t c h = ap on_plane (get_or-append vs t no_vertex c h)

good_more : (vs t : List Vertex) (nvp : ℕ) (p : Polygon) → Good (Below (length vs)) nvp p → Good (Below (length (vs ++ t))) nvp p
good_more vs t nvp p g =
    record { long = g.long; short = g.short; inside = all_imp (λ c (h : c < length vs). omega (arith, length-append vs t)) g.inside }

area_more : (vs t : List Vertex) (nvp : ℕ) (p : Polygon) → Good (Below (length vs)) nvp p → polygon_area (vs ++ t) p ≡ polygon_area vs p
unfolding polygon_area points_of
area_more vs t nvp p g = ap area (map_same (place_of (vs ++ t)) (place_of vs) (λ c (h : c < length vs). place_more vs t c h) g.inside)

pub areas_more : (vs t : List Vertex) (nvp : ℕ) (ps : List Polygon) → All (Good (Below (length vs)) nvp) ps → area_of (vs ++ t) ps ≡ area_of vs ps
areas_more vs t nvp ps a = sum_same (polygon_area (vs ++ t)) (polygon_area vs) (area_more vs t nvp) a

-- ---- the triangles of a contour, whose vertices vs took numbers

three_each : (region code : ℕ) (numbers : List ℕ) {ts : List (List ℕ)} → All (λ t. length t ≡ 3) ts
    → All (λ p. length p.corners ≡ 3) (map (contour_triangle numbers region code) ts)
unfolding contour_triangle
three_each region code numbers a = all_map (contour_triangle numbers region code) (λ t (e : length t ≡ 3). length-map t (λ k. get_or numbers k 0) ∙ e) a

-- before removals: the polygons of one contour have, summed, two fewer than their corners each, exactly its length minus 2
pub contour_corners : (nvp region code : ℕ) (vs : List Vertex) (numbers : List ℕ) (ps : List Point) (ts : List (List ℕ)) → 3 ≤ nvp → 3 ≤ length ps
    → triangulate ps ≡ done ts → Corners (length ps - 2) (merge_all vs nvp (map (contour_triangle numbers region code) ts))
contour_corners nvp region code vs numbers ps ts three low e =
    let m = triangles_merged vs nvp (map (contour_triangle numbers region code) ts) three (three_each region code numbers (triangles_three ps ts e)) in
    record { spares = m.spares ∙ length-map ts (contour_triangle numbers region code) ∙ triangles_counted ps ts low e; long = m.long }

module _ (vs : List Vertex) (s : Welded) (old : List Vertex) (w : Welds old vs (length vs) s) where
  took_place : (k : ℕ) → k < length (map on_plane vs) → place_of s.vertices (get_or s.numbers k 0) ≡ get_or (map on_plane vs) k origin
  took_place k h =
      let n = length-map vs on_plane in
      (w.took k (omega arith)).place ∙ sym (get_or_map_in on_plane vs k no_vertex origin (omega arith))

  area_triangle : (region code : ℕ) {t : List ℕ} → Triangle (length (map on_plane vs)) t
      → polygon_area s.vertices (contour_triangle s.numbers region code t) ≡ cut_area (map on_plane vs) t
  unfolding polygon_area points_of contour_triangle cut_area
  area_triangle region code (triangle {a} {b} {c} h k l) = ap area (rw (took_place a h, took_place b k, took_place c l) refl)

  good_triangle : (nvp region code : ℕ) {t : List ℕ} → 3 ≤ nvp → Triangle (length (map on_plane vs)) t
      → Good (Below (length s.vertices)) nvp (contour_triangle s.numbers region code t)
  unfolding contour_triangle
  good_triangle nvp region code z (triangle {a} {b} {c} h k l) =
      let n = length-map vs on_plane in
      record {
        long = omega arith;
        short = z;
        inside = more (w.took a (omega arith)).below (more (w.took b (omega arith)).below (more (w.took c (omega arith)).below none));
      }

-- ---- one contour

in_grid : (vs : List Vertex) (u : Vertex) → ((k : ℕ) → k < length vs → InGrid (on_plane (get_or vs k no_vertex))) → OneOf vs (length vs) u → InGrid (on_plane u)
in_grid vs u grid o = rw o.is (grid o.place o.below)

pub contour_added : (height nvp region code : ℕ) (vs : List Vertex) (flags : List ℕ) (ts : List (List ℕ)) (m : Mesh) → 3 ≤ nvp → Sound nvp m
    → 3 ≤ length vs → length vs ≤ 2 ^ 28 → ((k : ℕ) → k < length vs → InGrid (on_plane (get_or vs k no_vertex))) → triangulate (map on_plane vs) ≡ done ts
    → Grown nvp (area (map on_plane vs)) (length vs - 2) (length vs) m (add_contour height nvp region code vs flags ts m)
unfolding add_contour mesh_area
contour_added height nvp region code vs flags ts m three sound low high grid e =
    let s₀ : Welded = record { vertices = m.vertices; marks = m.marks; numbers = [] } in
    let s = weld_all height vs flags s₀ in
    let w = welded height vs flags s₀ sound.marked refl in
    let n = length-map vs on_plane in
    let c = triangulated (map on_plane vs) ts (omega arith) (omega arith) e in
    let triangleOf = contour_triangle s.numbers region code in
    let new = map triangleOf ts in
    let g = merged s.vertices (Below (length s.vertices)) nvp new
    (all_map triangleOf (λ t (k : Triangle (length (map on_plane vs)) t). good_triangle vs s m.vertices w nvp region code three k) c.inside) in
    record {
      areas = sum_append (polygon_area s.vertices) m.polygons (merge_all s.vertices nvp new)
          ∙ ap₂ ◌+ℤ◌ (ap (λ (l : List Vertex). area_of l m.polygons) w.grown ∙ areas_more m.vertices w.more nvp m.polygons sound.good)
          (g.areas ∙ sum_map (polygon_area s.vertices) triangleOf ts
          ∙ sum_same (λ t. polygon_area s.vertices (triangleOf t)) (cut_area (map on_plane vs))
          (λ t (k : Triangle (length (map on_plane vs)) t). area_triangle vs s m.vertices w region code k) c.inside ∙ c.areas);
      spares = total_append spare_of m.polygons (merge_all s.vertices nvp new)
          ∙ ap (λ (k : ℕ). spares_in m.polygons + k) ((contour_corners nvp region code s.vertices s.numbers (map on_plane vs) ts three (omega arith) e).spares ∙ ap (λ (k : ℕ). k - 2) n);
      vertices = omega (arith, ap length w.grown, length-append m.vertices w.more, w.few);
      sound = record {
        good = all_append (all_imp (λ p (k : Good (Below (length m.vertices)) nvp p).
            subst (λ (l : List Vertex). Good (Below (length l)) nvp p) (sym w.grown) (good_more m.vertices w.more nvp p k)) sound.good) g.good;
        marked = w.marked;
        grid = subst (All (λ (v : Vertex). InGrid (on_plane v))) (sym w.grown)
            (all_append sound.grid (all_imp (λ u (o : OneOf vs (length vs) u). in_grid vs u grid o) w.fresh));
      };
    }

-- ---- all contours
pub length_contour : (ns : List ℕ) (first n : ℕ) → length (contour_vertices ns first n) ≡ n
unfolding contour_vertices
length_contour ns first n = length_tab _ n

pub get_or_contour : (ns : List ℕ) (first n k : ℕ) → k < n → get_or (contour_vertices ns first n) k no_vertex ≡ vertex_at ns (first + k)
unfolding contour_vertices
get_or_contour ns first n k h = get_or_tab (λ k. vertex_at ns (first + k)) n k no_vertex h

drop_next : (ls : List ℕ) (c : ℕ) → c < length ls → drop c ls ≡ get_or ls c 0 ∷ drop (c + 1) ls
drop_next ls c h = drop-cons ls c 0 h ∙ ap (λ (k : ℕ). get_or ls c 0 ∷ drop k ls) (sym (add-one c))

skip_step : (j : Job) (c first : ℕ) (m t : Mesh) → c < length j.lengths → get_or j.lengths c 0 < 3 → Grows j (c + 1) (first + get_or j.lengths c 0) m t → Grows j c first m t
unfolding contour_areas
skip_step j c first m t h k g =
    let n = get_or j.lengths c 0 in
    let l = length-map (contour_vertices j.numbers first n) on_plane in let o = length_contour j.numbers first n in
    rw (
      drop_next j.lengths c h,
      over_turn 0 ◌+◌ (triangles_in j.lengths) c (length j.lengths) h,
      over_turn 0 ◌+◌ (points_in j.lengths) c (length j.lengths) h,
      lt-leb 3 n k,
      area_few (map on_plane (contour_vertices j.numbers first n)) (omega arith),
    )
    (record {
      areas = g.areas ∙ ap (λ (z : ℤ). mesh_area m +ℤ z) (sym (+ℤ_idl (contour_areas j.numbers (first + n) (drop (c + 1) j.lengths))));
      spares = omega (arith, g.spares);
      vertices = omega (arith, g.vertices);
      sound = g.sound;
    })

add_step : (j : Job) (c first : ℕ) (m u t : Mesh) → c < length j.lengths → 3 ≤ get_or j.lengths c 0
    → Grown j.nvp (area (map on_plane (contour_vertices j.numbers first (get_or j.lengths c 0)))) (get_or j.lengths c 0 - 2) (get_or j.lengths c 0) m u
    → Grows j (c + 1) (first + get_or j.lengths c 0) u t → Grows j c first m t
unfolding contour_areas
add_step j c first m u t h k a g =
    let n = get_or j.lengths c 0 in
    rw (
      drop_next j.lengths c h,
      over_turn 0 ◌+◌ (triangles_in j.lengths) c (length j.lengths) h,
      over_turn 0 ◌+◌ (points_in j.lengths) c (length j.lengths) h,
      le-leb 3 n k,
    )
    (record {
      areas = g.areas ∙ ap (λ (z : ℤ). z +ℤ contour_areas j.numbers (first + n) (drop (c + 1) j.lengths)) a.areas
          ∙ +ℤ_assoc (mesh_area m) (area (map on_plane (contour_vertices j.numbers first n))) (contour_areas j.numbers (first + n) (drop (c + 1) j.lengths));
      spares = omega (arith, g.spares, a.spares);
      vertices = omega (arith, g.vertices, a.vertices);
      sound = g.sound;
    })

grown_none : (nvp : ℕ) (m : Mesh) → Sound nvp m → Grown nvp (pos 0) 0 0 m m
grown_none nvp m s = record { areas = sym (+ℤ_idr (mesh_area m)); spares = omega arith; vertices = omega arith; sound = s }

module _ (f : ℕ) (j : Job) (c first : ℕ) (m : Mesh) where
  pub add_skip : ltb (get_or j.lengths c 0) 3 ≡ true → add_from (suc f) j c first m ≡ add_from f j (c + 1) (first + get_or j.lengths c 0) m
  unfolding add_from
  add_skip e = rw (e, add_from) refl

  pub add_stuck : (i : ℕ) → ltb (get_or j.lengths c 0) 3 ≡ false → triangulate (map on_plane (contour_vertices j.numbers first (get_or j.lengths c 0))) ≡ stuck i → add_from (suc f) j c first m ≡ no_ear_in c i
  unfolding add_from
  add_stuck i e r = rw (e, add_from, r) refl

  pub add_done : (ts : List (List ℕ)) → ltb (get_or j.lengths c 0) 3 ≡ false → triangulate (map on_plane (contour_vertices j.numbers first (get_or j.lengths c 0))) ≡ done ts
      → add_from (suc f) j c first m ≡ add_from f j (c + 1) (first + get_or j.lengths c 0)
      (add_contour weld_height j.nvp (get_or j.regions c 0) (get_or j.codes c 0) (contour_vertices j.numbers first (get_or j.lengths c 0)) (contour_flags j.numbers first (get_or j.lengths c 0)) ts m)
  unfolding add_from
  add_done ts e r = rw (e, add_from, r) refl

-- the vertices of a contour lie in the grid
contour_grid : (j : Job) (ls : List ℕ) (first n : ℕ) → Passed j ls → first + n ≤ count_all j
    → (k : ℕ) → k < length (contour_vertices j.numbers first n) → InGrid (on_plane (get_or (contour_vertices j.numbers first n) k no_vertex))
contour_grid j ls first n p h k l =
    let o = length_contour j.numbers first n in
    rw (get_or_contour j.numbers first n k (omega arith)) (p.grid (first + k) (omega arith))

-- the contours from c on are added to the mesh m, which gives the mesh t
pub contours_added : (f : ℕ) (j : Job) (ls : List ℕ) (c first : ℕ) (m t : Mesh) → Passed j ls → c + f ≡ length j.lengths → first + left (λ c. get_or j.lengths c 0) j c ≡ count_all j
    → Sound j.nvp m → add_from f j c first m ≡ added t → Grows j c first m t
unfolding add_from contour_areas
contours_added zero j ls c first m t p e d sound q =
    let a : m ≡ t = cc in
    rw (
      ← a,
      drop_of_length-le j.lengths {i = c} (omega arith),
      over_end 0 ◌+◌ (triangles_in j.lengths) c (length j.lengths) (omega arith),
      over_end 0 ◌+◌ (points_in j.lengths) c (length j.lengths) (omega arith),
    ) (grown_none j.nvp m sound)
contours_added (suc f) j ls c first m t p e d sound q =
    let n = get_or j.lengths c 0 in
    let vs = contour_vertices j.numbers first n in
    let d' = over_turn 0 ◌+◌ (λ c. get_or j.lengths c 0) c (length j.lengths) (omega arith) in
    (elim (ltb n 3) as (λ (b : Bool). ltb n 3 ≡ b → Grows j c first m t) [
      | true ↦ λ k. skip_step j c first m t (omega arith) (ltb-true n 3 k)
          (contours_added f j ls (c + 1) (first + n) m t p (omega arith) (omega arith) sound (sym (add_skip f j c first m k) ∙ q))
      | false ↦ λ k.
          (elim (triangulate (map on_plane vs)) as (λ (r : Ears). triangulate (map on_plane vs) ≡ r → Grows j c first m t) [
            | stuck i ↦ λ r. absurd (no c i t (sym (add_stuck f j c first m i k r) ∙ q))
            | done ts ↦ λ r.
                let l = length_contour j.numbers first n in
                let low = ltb-false n 3 k in
                let u = add_contour weld_height j.nvp (get_or j.regions c 0) (get_or j.codes c 0) vs (contour_flags j.numbers first n) ts m in
                let g = contour_added weld_height j.nvp (get_or j.regions c 0) (get_or j.codes c 0) vs (contour_flags j.numbers first n) ts m p.nvp_low sound (omega arith)
                (omega (arith, length_small j c (omega arith) low, p.few)) (contour_grid j ls first n p (omega arith)) r in
                add_step j c first m u t (omega arith) low (rw l at g)
                (contours_added f j ls (c + 1) (first + n) u t p (omega arith) (omega arith) g.sound (sym (add_done f j c first m ts k r) ∙ q))
          ]) refl
    ]) refl
  where
    no : (c i : ℕ) (t : Mesh) → no_ear_in c i ≡ added t → ⊥
    no c i t e = let z : ◌≡◌ {A = ℕ} 0 1 = cc in omega arith
