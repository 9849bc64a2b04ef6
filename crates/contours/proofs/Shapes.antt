-- The triangles of a contour made polygons, and merged: a loop writes one polygon after the other, in front of what it reads. Assumes nothing.
use mathlib.Core.Path.{◌≡◌, refl, sym, ap, ◌∙◌}
use mathlib.Core.List.{List, [], ◌∷◌, ◌++◌, map}
use Prim.Native.Nat.{ℕ, ◌+◌, ◌-◌, ◌*◌, ◌≤◌, ◌<◌}
use native.Mathlib.Omega.{arith}
use lib.ListN.{length, take, get_or, replicate, length-append, length-replicate, length-map}
use lib.Seq.{length-take-le}
use Rattle.mem.specs.Slice.{view, splice, length_splice, length_view, get_or_view, view_after, splice_over, splice_comm, splice_append}
use Rattle.mem.specs.Tab.{tab, length_blocks, get_or_blocks, blocks_after, blocks_before}
use Rattle.mem.specs.Packed.{Every, every_take, packed, Laid, laid_more, laid_all}
use Rattle.rules.specs.Mesh.{Polygon, no_polygon}
use Rattle.rules.specs.Exits.{padded}
use Rattle.rules.specs.Merge.{merge_all}
use Rattle.rules.specs.Build.{contour_triangle}
use Rattle.laws.specs.Ears.{Triangle, triangle}
use Rattle.laws.specs.Merge.{Good, Below}
use Rattle.laws.specs.Lists.{All, none, more}
use Rattle.laws.proofs.Lists.{all_imp, all_map, all_at, every_of_all, get_or_map_in}
use Rattle.records.specs.Layout.{vertex_size, polygon_size, vertex_in, vertices_at, polygons_at, polygon_words, polygon_records, Small}
use Rattle.records.specs.Values.{to_poly, poly_words, Loaded}
use Rattle.records.specs.Blanks.{blanks_small}
use Rattle.records.specs.Polygons.{stored_words, length_words, length_records, records_append, polygons_are, tidy_of}
use Rattle.records.specs.Fixed.{word_at, words_view}
use Rattle.records.specs.declared.polygon.Poly.{Poly}
use Rattle.polys.specs.Ready.{MergedTo}
use Rattle.polys.specs.Rows.{row_size, wiped, MergeRoom, MergedOver}
use Rattle.holes.specs.Fill.{triangles_at}
use Rattle.contours.specs.Shaping.{ShapeReady, MeshReady, contour_polygons, MeshedTo, MeshedOver}

-- ---- one triangle

pub triangle_made : (w : List ℕ) (ko n i j k region code : ℕ) → i < n → j < n → k < n
    → Loaded (contour_triangle (view w ko n) region code (i ∷ j ∷ k ∷ []))
    (record { corners = get_or w (ko + i) 0 ∷ get_or w (ko + j) 0 ∷ get_or w (ko + k) 0 ∷ 65535 ∷ 65535 ∷ 65535 ∷ 65535 ∷ 65535 ∷ 65535 ∷ 65535 ∷ 65535 ∷ 65535 ∷ []; n = 3; region = region; code = code })
unfolding contour_triangle to_poly padded
triangle_made w ko n i j k region code hi hj hk = record {
  is = rw (get_or_view w ko n i 0 hi, get_or_view w ko n j 0 hj, get_or_view w ko n k 0 hk) refl;
  count = refl;
  most = omega arith;
}

corner_below : {m a b c : ℕ} → Triangle m (a ∷ b ∷ c ∷ []) → (a < m) × (b < m) × (c < m)
corner_below (triangle h k l) = (h, k, l)

-- ---- the triangles become polygons

abbrev pub Shaped : (v : List ℕ) (at ko n to k region code : ℕ) → List ℕ → ℕ → Type 0
Shaped v at ko n to k region code w i = Laid polygon_words v at (map (contour_triangle (view v ko n) region code) (triangles_at v to k)) w i

small_triangles : (numbers : List ℕ) (region code : ℕ) {n : ℕ} {ts : List (List ℕ)} → All (Triangle n) ts → Every Small no_polygon (map (contour_triangle numbers region code) ts)
unfolding contour_triangle
small_triangles numbers region code {n} a = every_of_all Small no_polygon (omega arith) (all_map (contour_triangle numbers region code) (λ t (h : Triangle n t). few h) a)
  where
    few : {t : List ℕ} → Triangle n t → length (map (λ k. get_or numbers k 0) t) ≤ 12
    few (triangle h k l) = omega arith

module _ {v : List ℕ} {at ko n to k : ℕ} (r : ShapeReady v at ko n to k) where
  count : length (triangles_at v to k) ≡ k
  unfolding triangles_at
  count = length_blocks (λ t. t) v to 3 k

  module _ (region code : ℕ) where
    all : List Polygon
    all = map (contour_triangle (view v ko n) region code) (triangles_at v to k)

    counts : length (map (contour_triangle (view v ko n) region code) (triangles_at v to k)) ≡ k
    counts = length-map (triangles_at v to k) (contour_triangle (view v ko n) region code) ∙ count

    small : Every Small no_polygon (map (contour_triangle (view v ko n) region code) (triangles_at v to k))
    small = small_triangles (view v ko n) region code r.within

    module _ {w : List ℕ} {i : ℕ} (s : Shaped v at ko n to k region code w i) where
      written : List ℕ
      written = packed polygon_words (take i (map (contour_triangle (view v ko n) region code) (triangles_at v to k)))

      short : length written ≤ k * polygon_size
      unfolding written polygon_records all
      short =
          let e : length (packed polygon_words (take i all)) ≡ length (take i all) * polygon_size =
          length_records (take i all) (every_take Small no_polygon all i small) in
          omega (arith, length-take-le i all s.within, s.within, counts)

      same_numbers : view w ko n ≡ view v ko n
      unfolding written
      same_numbers = rw s.put (view_after v at ko n written (omega (arith, short, r.front)))

      same_triangles : triangles_at w to k ≡ triangles_at v to k
      unfolding triangles_at written
      same_triangles = rw s.put (blocks_before (λ t. t) v at to 3 k written (omega (arith, short, r.front, r.behind)))

      module _ (h : i < k) where
        fits : to + i * 3 + 3 ≤ length w
        fits = omega (arith, s.long, r.fits)

        three : get_or (triangles_at v to k) i [] ≡ get_or w (to + i * 3) 0 ∷ get_or w (to + i * 3 + 1) 0 ∷ get_or w (to + i * 3 + 2) 0 ∷ []
        unfolding triangles_at tab word_at
        three = rw (← same_triangles) (get_or_blocks (λ t. t) w to 3 k i [] h ∙ sym (words_view w (to + i * 3) 3 fits))

        all_within : Triangle n (get_or w (to + i * 3) 0 ∷ get_or w (to + i * 3 + 1) 0 ∷ get_or w (to + i * 3 + 2) 0 ∷ [])
        all_within = rw three at (all_at r.within i [] (rw count h))

        pub first_within : get_or w (to + i * 3) 0 < n
        first_within = (corner_below all_within).0

        pub second_within : get_or w (to + i * 3 + 1) 0 < n
        second_within = (corner_below all_within).1

        pub third_within : get_or w (to + i * 3 + 2) 0 < n
        third_within = (corner_below all_within).2

        pub shape_more : {x y z : ℕ} {p : Poly} {u : List ℕ} → x ≡ get_or w (to + i * 3) 0 → y ≡ get_or w (to + i * 3 + 1) 0 → z ≡ get_or w (to + i * 3 + 2) 0
            → Loaded (contour_triangle (view w ko n) region code (x ∷ y ∷ z ∷ [])) p → u ≡ splice w (at + i * polygon_size) (poly_words p) → Shaped v at ko n to k region code u (i + 1)
        shape_more {x} {y} {z} {p} {u} ex ey ez l e =
            let one = contour_triangle (view v ko n) region code in
            let g : contour_triangle (view w ko n) region code (x ∷ y ∷ z ∷ []) ≡ get_or (map one (triangles_at v to k)) i no_polygon =
            rw (same_numbers, ex, ey, ez, ← three) (sym (get_or_map_in one (triangles_at v to k) i [] no_polygon (rw count h))) in
            laid_more polygon_words v at _ s polygon_size Small no_polygon length_words small (rw counts h)
            (e ∙ ap (splice w (at + i * polygon_size)) (stored_words _ l.is ∙ ap polygon_words g))

      pub shape_fits : ko + n ≤ length w
      shape_fits = omega (arith, s.long, r.behind, r.fits)

      pub shape_all : k ≤ i → w ≡ splice v at (polygon_records (map (contour_triangle (view v ko n) region code) (triangles_at v to k)))
      unfolding polygon_records
      shape_all h = laid_all polygon_words v at _ s (omega (arith, counts))

-- ---- and are merged, with zeros behind them

module _ {v : List ℕ} {vo nv at ko n to k nvp ro : ℕ} (r : MeshReady v vo nv at ko n to k nvp ro) (region code : ℕ) {w : List ℕ}
    (e : w ≡ splice v at (polygon_records (map (contour_triangle (view v ko n) region code) (triangles_at v to k)))) where
  new : List Polygon
  new = map (contour_triangle (view v ko n) region code) (triangles_at v to k)

  long_w : length w ≡ length v
  long_w = ap length e ∙ length_splice v at _

  fits' : at + k * polygon_size ≤ length v
  fits' = omega (arith, r.shape.front, r.shape.behind, r.shape.fits)

  small' : Every Small no_polygon new
  unfolding new
  small' = small r.shape region code

  new_count : length new ≡ k
  unfolding new
  new_count = counts r.shape region code

  are : polygons_at w at k ≡ new
  unfolding new
  are = polygons_are v at k new e new_count small' fits'

  seen : vertices_at w vo nv ≡ vertices_at v vo nv
  unfolding vertices_at
  seen = rw e (blocks_after vertex_in v at vo vertex_size nv _ r.before)

  good_one : {t : List ℕ} → Triangle n t → Good (Below nv) nvp (contour_triangle (view v ko n) region code t)
  unfolding contour_triangle
  good_one (triangle {a} {b} {c} h i j) =
      let l : length (view v ko n) ≡ n = length_view v ko n (omega (arith, r.shape.behind, r.shape.fits)) in
      record {
        long = omega arith;
        short = r.least;
        inside = more (all_at r.named a 0 (rw l h)) (more (all_at r.named b 0 (rw l i)) (more (all_at r.named c 0 (rw l j)) none));
      }

  good : All (Good (Below nv) nvp) new
  unfolding new
  good = all_map (contour_triangle (view v ko n) region code) (λ t (h : Triangle n t). good_one h) r.shape.within

  pub mesh_ready : MergeRoom w vo nv at k nvp ro
  unfolding new
  mesh_ready = record {
    rows = record {
      ready = record {
        placed = record { fits = omega (arith, long_w, r.placed.fits); grid = rw seen r.placed.grid };
        behind = r.before;
        fits = omega (arith, long_w, fits');
        most = r.most;
        good = rw are good;
      };
      behind = omega (arith, r.shape.front, r.clear);
      room = omega (arith, long_w, r.room);
      few = r.few;
    };
    tidy = tidy_of v at k new e new_count small' fits';
  }

  module _ {u : List ℕ} {m : ℕ} (x : MergedTo w u vo nv at k nvp m) where
    merged : List Polygon
    merged = merge_all (vertices_at v vo nv) nvp new

    merged_small : Every Small no_polygon merged
    unfolding merged
    merged_small =
        let g : All (Good (Below nv) nvp) merged = rw (seen, are) at x.good in
        every_of_all Small no_polygon (omega arith) (all_imp (λ p (a : Good (Below nv) nvp p). omega (arith, a.short, r.most)) g)

    merged_count : m ≡ length merged
    unfolding merged
    merged_count = rw (seen, are) at x.count

    R : List ℕ
    R = polygon_records merged

    long_R : length R ≡ m * polygon_size
    unfolding R
    long_R = length_records merged merged_small ∙ ap (λ (j : ℕ). j * polygon_size) (sym merged_count)

    blanks : List ℕ
    blanks = polygon_records (replicate (k - m) no_polygon)

    long_blanks : length blanks ≡ (k - m) * polygon_size
    unfolding blanks
    long_blanks = length_records (replicate (k - m) no_polygon) (blanks_small (k - m)) ∙ ap (λ (j : ℕ). j * polygon_size) (length-replicate (k - m) no_polygon)

    words : u ≡ splice v at (R ++ blanks)
    unfolding new merged R blanks
    words =
        (rw (seen, are) at x.is) ∙ ap (λ (y : List ℕ). splice y at (polygon_records (merged ++ replicate (k - m) no_polygon))) e
        ∙ rw (records_append merged (replicate (k - m) no_polygon))
        (splice_over v at (polygon_records new) (R ++ blanks)
        (simp length-append (omega (arith, length_records new small', new_count, long_R, long_blanks, x.fewer))))

    meshed : {y : List ℕ} → y ≡ splice u (at + m * polygon_size) (replicate ((k - m) * polygon_size) 0) → MeshedTo v y vo nv at ko n to k nvp region code m
    unfolding contour_polygons new merged R
    meshed {y} f =
        let Z : List ℕ = replicate ((k - m) * polygon_size) 0 in
        let lz : length Z ≡ (k - m) * polygon_size = length-replicate ((k - m) * polygon_size) 0 in
        record {
          count = merged_count;
          is = f ∙ rw (words, ← long_R, ← splice_append v at R blanks)
              (splice_over (splice v at R) (at + length R) blanks Z (omega (arith, long_blanks)) ∙ splice_append v at R Z);
          fewer = x.fewer;
          small = merged_small;
        }

  pub meshed_over : {u y : List ℕ} {m : ℕ} → MergedOver w u vo nv at k nvp ro m → y ≡ splice u (at + m * polygon_size) (replicate ((k - m) * polygon_size) 0)
      → MeshedOver v y vo nv at ko n to k nvp ro region code m
  unfolding wiped
  meshed_over {u} {y} {m} x f =
      let zs : List ℕ = replicate ((k - m) * polygon_size) 0 in
      let lz : length zs ≡ (k - m) * polygon_size = length-replicate ((k - m) * polygon_size) 0 in
      record {
        mid = splice x.mid (at + m * polygon_size) zs;
        meshed = meshed x.merged refl;
        is =
            f ∙ ap (λ (l : List ℕ). splice l (at + m * polygon_size) zs) x.is
            ∙ sym (splice_comm x.mid (at + m * polygon_size) ro zs (replicate (k * row_size) 0) (omega (arith, x.merged.fewer, r.shape.front, r.clear)));
      }
