-- A hole's points laid out, and its triangles made polygons: each loop writes the things of a list one after the other, and what it reads lies elsewhere.
-- Assumes nothing.
use mathlib.Core.Path.{◌≡◌, refl, sym, ap, ◌∙◌}
use mathlib.Core.Bool.{Bool, ◌&&◌, cond}
use mathlib.Core.List.{List, [], ◌∷◌, ◌++◌, map}
use Prim.Native.Nat.{ℕ, ◌+◌, ◌-◌, ◌*◌, ◌≤◌, ◌<◌}
use native.Mathlib.Omega.{arith}
use lib.Dec.{eqb}
use lib.ListN.{length, take, drop, get_or, set, replicate, length-append, length-replicate, length-map}
use Rattle.mem.specs.Slice.{view, splice, length_splice, splice_over, view_same, length_view}
use lib.Seq.{length-take-le, take-take}
use Rattle.plane.specs.Points.{points_in}
use Rattle.mem.specs.Tab.{tab, length_blocks, get_or_blocks, blocks_after, blocks_before}
use Rattle.records.specs.Blanks.{blanks_small}
use Rattle.mem.specs.Packed.{Every, every_of, every_append, every_map, every_take, packed, Laid, laid_more, laid_all}
use Rattle.rules.specs.Plane.{InGrid, origin}
use Rattle.rules.specs.Mesh.{Polygon, no_polygon, place_of}
use Rattle.rules.specs.Exits.{padded}
use Rattle.rules.specs.Merge.{merge_all}
use Rattle.rules.specs.Removal.{no_point, places_of, hole_triangle}
use Rattle.rules.specs.declared.Point.{Point}
use Rattle.rules.specs.declared.ChainPoint.{ChainPoint}
use Rattle.laws.specs.Ears.{Triangle, triangle}
use Rattle.laws.specs.Merge.{Good, Below}
use Rattle.laws.proofs.Removal.{good_triangle, length_places}
use Rattle.laws.specs.Lists.{All, none, more}
use Rattle.laws.proofs.Lists.{all_imp, every_of_all, all_map, all_at, get_or_map_in}
use Rattle.records.specs.Layout.{vertex_size, point_size, polygon_size, vertex_in, point_in, vertices_at, points_at, polygons_at, polygon_words, polygon_records, Small, Placed}
use Rattle.records.specs.Values.{to_poly, poly_words, Loaded}
use Rattle.records.specs.Polygons.{stored_words, length_words, length_records, polygons_are, tidy_of}
use Rattle.polys.specs.Ready.{MergedTo}
use Rattle.polys.specs.Rows.{MergeRoom, MergedOver}
use Rattle.records.specs.Fixed.{point_fixed, fixed_count, word_at, words_view}
use Rattle.records.specs.declared.polygon.Poly.{Poly}
use Rattle.holes.specs.Places.{two, put_two, placed_words, points_back, grid_words}
use Rattle.holes.specs.Fill.{place_words, LayReady, CutReady, cut_words, triangles_at, ShapeReady, MeshReady, hole_polygons, MeshedTo, MeshedOver}
use Rattle.rules.specs.Ears.{Ears, done, stuck, triangulate}
use Rattle.ears.specs.Part.{Laid as EarsLaid, points_of, cut_in}

-- ---- the places of the points

abbrev pub Laying : (v : List ℕ) (vo nv q m po : ℕ) → List ℕ → ℕ → Type 0
Laying v vo nv q m po w k = Laid place_words v po (places_of (vertices_at v vo nv) (points_at v q m)) w k

module _ {v : List ℕ} {vo nv q m po : ℕ} (r : LayReady v vo nv q m po) where
  pub many : length (places_of (vertices_at v vo nv) (points_at v q m)) ≡ m
  unfolding places_of
  many = length-map (points_at v q m) _ ∙ fixed_count point_fixed v q m

  module _ {w : List ℕ} {k : ℕ} (s : Laying v vo nv q m po w k) where
    same_points : points_at w q m ≡ points_at v q m
    unfolding points_at
    same_points = rw s.put (blocks_after point_in v po q point_size m _ r.behind)

    same_vertices : vertices_at w vo nv ≡ vertices_at v vo nv
    unfolding vertices_at
    same_vertices = rw s.put (blocks_after vertex_in v po vo vertex_size nv _ (omega (arith, r.before, r.behind)))

    pub lay_placed : Placed w vo nv
    lay_placed = record { fits = omega (arith, s.long, r.placed.fits); grid = rw same_vertices r.placed.grid }

    module _ {c : ChainPoint} (h : k < m) (e : c ≡ get_or (points_at w q m) k no_point) where
      pub lay_named : c.vertex < nv
      lay_named =
          rw (e, same_points) (all_at r.named k no_point (rw (fixed_count point_fixed v q m) h))

      pub lay_more : {p : Point} → p ≡ place_of (vertices_at w vo nv) c.vertex → Laying v vo nv q m po (set (set w (po + k * 2) p.x) (po + k * 2 + 1) p.z) (k + 1)
      unfolding places_of
      lay_more {p} f =
          let g : p ≡ get_or (places_of (vertices_at v vo nv) (points_at v q m)) k origin =
          f ∙ rw (same_vertices, e, same_points) (sym (get_or_map_in _ (points_at v q m) k no_point origin (rw (fixed_count point_fixed v q m) h))) in
          laid_more place_words v po _ s 2 (λ x. Unit) origin (λ x t. two x) (every_of (λ x. Unit) origin _ (λ i. tt)) (rw many h)
          (put_two w (po + k * 2) p ∙ ap (λ (x : Point). splice w (po + k * 2) (place_words x)) g)

    pub lay_all : m ≤ k → w ≡ splice v po (packed place_words (places_of (vertices_at v vo nv) (points_at v q m)))
    lay_all h = laid_all place_words v po _ s (omega (arith, many))

-- ---- the points are cut

module _ {v : List ℕ} {vo nv q m po : ℕ} (r : CutReady v vo nv q m po) {w : List ℕ}
    (e : w ≡ splice v po (packed place_words (places_of (vertices_at v vo nv) (points_at v q m)))) where
  P : List ℕ
  P = packed place_words (places_of (vertices_at v vo nv) (points_at v q m))

  long_P : length P ≡ m * 2
  unfolding P
  long_P = placed_words (places_of (vertices_at v vo nv) (points_at v q m)) ∙ ap (λ (k : ℕ). k * 2) (many r.lay)

  long_w : length w ≡ length v
  long_w = ap length e ∙ length_splice v po _

  front : take (m * 2) (view w po (m * 6 - 6)) ≡ P
  unfolding P
  front =
      take-take (m * 2) (m * 6 - 6) (drop po w) (omega (arith, r.some))
      ∙ ap (λ (l : List ℕ). view l po (m * 2)) e ∙ view_same v po (m * 2) P long_P r.lay.fits

  on_grid : All InGrid (places_of (vertices_at v vo nv) (points_at v q m))
  unfolding places_of
  on_grid = all_map (λ c. place_of (vertices_at v vo nv) c.vertex) (λ c (h : Unit). r.lay.placed.grid c.vertex) (anything (points_at v q m))
    where
      anything : (l : List ChainPoint) → All (λ c. Unit) l
      anything [] = none
      anything (c ∷ l) = more tt (anything l)

  pub cut_laid : EarsLaid m (view w po (m * 6 - 6))
  unfolding P
  cut_laid = record {
    some = r.some;
    few = r.few;
    size = omega (arith, length_view w po (m * 6 - 6) (omega (arith, long_w, r.room)), r.some);
    grid = rw front (record { small = grid_words (places_of (vertices_at v vo nv) (points_at v q m)) on_grid; few = omega (arith, long_P, r.few) });
  }

  pub cut_places : points_of m (view w po (m * 6 - 6)) ≡ places_of (vertices_at v vo nv) (points_at v q m)
  unfolding P
  cut_places = ap points_in front ∙ points_back (places_of (vertices_at v vo nv) (points_at v q m))

  cut_in_lem : (t : Ears) → splice w po (cut_in m (view w po (m * 6 - 6)) t) ≡ splice v po (cut_words m (places_of (vertices_at v vo nv) (points_at v q m)) t)
  unfolding cut_in cut_words P
  cut_in_lem (done ts) = rw (front, e) (splice_over v po P (P ++ (replicate m 0 ++ packed (λ t. t) ts)) (simp length-append (omega arith)))
  cut_in_lem (stuck k) = rw (front, e) (splice_over v po P (P ++ replicate (m + (m - 2) * 3) 0) (simp length-append (omega arith)))

  pub cut_words_lem : {u : List ℕ} → u ≡ splice w po (cut_in m (view w po (m * 6 - 6)) (triangulate (points_of m (view w po (m * 6 - 6)))))
      → u ≡ splice v po (cut_words m (places_of (vertices_at v vo nv) (points_at v q m)) (triangulate (places_of (vertices_at v vo nv) (points_at v q m))))
  cut_words_lem {u} f = f ∙ rw cut_places (cut_in_lem (triangulate (places_of (vertices_at v vo nv) (points_at v q m))))

-- ---- one triangle

pub region_agrees : (a b c : ℕ) (t : Bool) → (eqb a b && eqb b c) ≡ t → (x : ℕ) → x ≡ cond t a 0 → x ≡ cond (eqb a b && eqb b c) a 0
region_agrees a b c t e x f = rw e f

pub triangle_made : (hole : List ChainPoint) (i j k : ℕ) {a b c : ChainPoint} {g : ℕ} → a ≡ get_or hole i no_point → b ≡ get_or hole j no_point → c ≡ get_or hole k no_point
    → g ≡ cond (eqb a.region b.region && eqb b.region c.region) a.region 0
    → Loaded (hole_triangle hole (i ∷ j ∷ k ∷ []))
    (record { corners = a.vertex ∷ b.vertex ∷ c.vertex ∷ 65535 ∷ 65535 ∷ 65535 ∷ 65535 ∷ 65535 ∷ 65535 ∷ 65535 ∷ 65535 ∷ 65535 ∷ []; n = 3; region = g; code = a.code })
unfolding hole_triangle to_poly padded
triangle_made hole i j k ea eb ec f = record { is = rw (f, ea, eb, ec) refl; count = refl; most = omega arith }

corner_below : {m a b c : ℕ} → Triangle m (a ∷ b ∷ c ∷ []) → (a < m) × (b < m) × (c < m)
corner_below (triangle h k l) = (h, k, l)

-- ---- the triangles become polygons

abbrev pub Shaping : (v : List ℕ) (at q m to n : ℕ) → List ℕ → ℕ → Type 0
Shaping v at q m to n w k = Laid polygon_words v at (map (hole_triangle (points_at v q m)) (triangles_at v to n)) w k

small : (hole : List ChainPoint) (ts : List (List ℕ)) → Every Small no_polygon (map (hole_triangle hole) ts)
unfolding hole_triangle
small hole ts = every_map (λ t. Unit) [] Small no_polygon (hole_triangle hole) ts (omega arith) (λ t u. omega arith) (every_of (λ t. Unit) [] ts (λ i. tt))

module _ {v : List ℕ} {at q m to n : ℕ} (r : ShapeReady v at q m to n) where
  count : length (triangles_at v to n) ≡ n
  unfolding triangles_at
  count = length_blocks (λ t. t) v to 3 n

  counts : length (map (hole_triangle (points_at v q m)) (triangles_at v to n)) ≡ n
  counts = length-map (triangles_at v to n) (hole_triangle (points_at v q m)) ∙ count

  module _ {w : List ℕ} {i : ℕ} (s : Shaping v at q m to n w i) where
    written : List ℕ
    written = packed polygon_words (take i (map (hole_triangle (points_at v q m)) (triangles_at v to n)))

    short : length written ≤ n * polygon_size
    unfolding written polygon_records
    short =
        let l = map (hole_triangle (points_at v q m)) (triangles_at v to n) in
        let e : length (packed polygon_words (take i l)) ≡ length (take i l) * polygon_size =
        length_records (take i l) (every_take Small no_polygon l i (small (points_at v q m) (triangles_at v to n))) in
        omega (arith, length-take-le i l s.within, s.within, counts)

    same_points' : points_at w q m ≡ points_at v q m
    unfolding points_at written
    same_points' = rw s.put (blocks_before point_in v at q point_size m written (omega (arith, short, r.front)))

    same_triangles : triangles_at w to n ≡ triangles_at v to n
    unfolding triangles_at written
    same_triangles = rw s.put (blocks_before (λ t. t) v at to 3 n written (omega (arith, short, r.front, r.behind)))

    module _ (h : i < n) where
      fits : to + i * 3 + 3 ≤ length w
      fits = omega (arith, s.long, r.fits)

      three : get_or (triangles_at v to n) i [] ≡ get_or w (to + i * 3) 0 ∷ get_or w (to + i * 3 + 1) 0 ∷ get_or w (to + i * 3 + 2) 0 ∷ []
      unfolding triangles_at tab word_at
      three = rw (← same_triangles) (get_or_blocks (λ t. t) w to 3 n i [] h ∙ sym (words_view w (to + i * 3) 3 fits))

      all_within : Triangle m (get_or w (to + i * 3) 0 ∷ get_or w (to + i * 3 + 1) 0 ∷ get_or w (to + i * 3 + 2) 0 ∷ [])
      all_within = rw three at (all_at r.within i [] (rw count h))

      pub first_within : get_or w (to + i * 3) 0 < m
      first_within = (corner_below all_within).0

      pub second_within : get_or w (to + i * 3 + 1) 0 < m
      second_within = (corner_below all_within).1

      pub third_within : get_or w (to + i * 3 + 2) 0 < m
      third_within = (corner_below all_within).2

      pub shape_more : {x y z : ℕ} {p : Poly} {u : List ℕ} → x ≡ get_or w (to + i * 3) 0 → y ≡ get_or w (to + i * 3 + 1) 0 → z ≡ get_or w (to + i * 3 + 2) 0
          → Loaded (hole_triangle (points_at w q m) (x ∷ y ∷ z ∷ [])) p → u ≡ splice w (at + i * polygon_size) (poly_words p) → Shaping v at q m to n u (i + 1)
      shape_more {x} {y} {z} {p} {u} ex ey ez l e =
          let hole = points_at v q m in
          let g : hole_triangle (points_at w q m) (x ∷ y ∷ z ∷ []) ≡ get_or (map (hole_triangle hole) (triangles_at v to n)) i no_polygon =
          rw (same_points', ex, ey, ez, ← three) (sym (get_or_map_in (hole_triangle hole) (triangles_at v to n) i [] no_polygon (rw count h))) in
          laid_more polygon_words v at _ s polygon_size Small no_polygon length_words (small hole (triangles_at v to n)) (rw counts h)
          (e ∙ ap (splice w (at + i * polygon_size)) (stored_words _ l.is ∙ ap polygon_words g))

    pub shape_fits : q + m * point_size ≤ length w
    shape_fits = omega (arith, s.long, r.behind, r.fits)

    pub shape_all : n ≤ i → w ≡ splice v at (polygon_records (map (hole_triangle (points_at v q m)) (triangles_at v to n)))
    unfolding polygon_records
    shape_all h = laid_all polygon_words v at _ s (omega (arith, counts))

-- ---- and are merged
module _ {v : List ℕ} {vo nv at q m to k nvp ro : ℕ} (r : MeshReady v vo nv at q m to k nvp ro) {w : List ℕ}
    (e : w ≡ splice v at (polygon_records (map (hole_triangle (points_at v q m)) (triangles_at v to k)))) where
  new : List Polygon
  new = map (hole_triangle (points_at v q m)) (triangles_at v to k)

  long_w' : length w ≡ length v
  long_w' = ap length e ∙ length_splice v at _

  fits' : at + k * polygon_size ≤ length v
  fits' = omega (arith, r.shape.front, r.shape.behind, r.shape.fits)

  small' : Every Small no_polygon new
  unfolding new
  small' = small (points_at v q m) (triangles_at v to k)

  are : polygons_at w at k ≡ new
  unfolding new
  are = polygons_are v at k new e (counts r.shape) small' fits'

  seen : vertices_at w vo nv ≡ vertices_at v vo nv
  unfolding vertices_at
  seen = rw e (blocks_after vertex_in v at vo vertex_size nv _ r.before)

  good : All (Good (Below nv) nvp) new
  unfolding new
  good = all_map (hole_triangle (points_at v q m)) (λ t (h : Triangle m t). good_triangle (vertices_at v vo nv) (Below nv) nvp (points_at v q m) r.least r.named
      (rw (length_places (vertices_at v vo nv) (points_at v q m), fixed_count point_fixed v q m) h)) r.shape.within

  pub mesh_ready : MergeRoom w vo nv at k nvp ro
  unfolding new
  mesh_ready = record {
    rows = record {
      ready = record {
        placed = record { fits = omega (arith, long_w', r.placed.fits); grid = rw seen r.placed.grid };
        behind = r.before;
        fits = omega (arith, long_w', fits');
        most = r.most;
        good = rw are good;
      };
      behind = omega (arith, r.shape.front, r.clear);
      room = omega (arith, long_w', r.room);
      few = r.few;
    };
    tidy = tidy_of v at k new e (counts r.shape) small' fits';
  }

  meshed : {u : List ℕ} {n : ℕ} → MergedTo w u vo nv at k nvp n → MeshedTo v u vo nv at q m to k nvp n
  unfolding hole_polygons new
  meshed {u} {n} x =
      let all = merge_all (vertices_at v vo nv) nvp new in
      let c : n ≡ length all = rw (seen, are) at x.count in
      let g : All (Good (Below nv) nvp) all = rw (seen, are) at x.good in
      let s : Every Small no_polygon (all ++ replicate (k - n) no_polygon) =
      every_append Small no_polygon all (replicate (k - n) no_polygon)
      (every_of_all Small no_polygon (omega arith) (all_imp (λ p (a : Good (Below nv) nvp p). omega (arith, a.short, r.most)) g)) (blanks_small (k - n)) in
      let l : length (all ++ replicate (k - n) no_polygon) ≡ k = simp (length-append, length-replicate) (omega (arith, x.fewer)) in
      record {
        count = c;
        is = (rw (seen, are) at x.is) ∙ ap (λ (y : List ℕ). splice y at (polygon_records (all ++ replicate (k - n) no_polygon))) e
            ∙ splice_over v at (polygon_records new) (polygon_records (all ++ replicate (k - n) no_polygon))
            (omega (arith, length_records new small', counts r.shape, length_records (all ++ replicate (k - n) no_polygon) s, l));
        fewer = x.fewer;
        small = s;
      }

  pub meshed_over : {u : List ℕ} {n : ℕ} → MergedOver w u vo nv at k nvp ro n → MeshedOver v u vo nv at q m to k nvp ro n
  meshed_over x = record { mid = x.mid; meshed = meshed x.merged; is = x.is }
