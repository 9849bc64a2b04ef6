-- A hole filled: what the cutting leaves is what the meshing asks for, and once the words of the cutting are wiped the polygons are all that was added.
-- Assumes nothing.
use Rattle.std.specs.Prelude.{Some}
use mathlib.Core.Path.{◌≡◌, refl, sym, ap, ◌∙◌}
use mathlib.Core.List.{List, [], ◌∷◌, ◌++◌}
use Prim.Native.Nat.{ℕ, ◌+◌, ◌-◌, ◌*◌}
use native.Mathlib.Omega.{arith}
use lib.ListN.{length, replicate, length-append, length-replicate}
use Rattle.mem.specs.Slice.{splice, length_splice, splice_append, splice_over, splice_comm}
use Rattle.mem.specs.Tab.{blocks_after}
use Rattle.mem.specs.Packed.{Every, packed, length_packed, unpacked}
use Rattle.rules.specs.Ears.{done, stuck, triangulate}
use Rattle.rules.specs.Mesh.{Polygon, no_polygon}
use Rattle.rules.specs.Removal.{places_of}
use Rattle.rules.specs.declared.Vertex.{Vertex}
use Rattle.rules.specs.declared.ChainPoint.{ChainPoint}
use Rattle.laws.specs.Lists.{All}
use Rattle.laws.proofs.Lists.{all_imp, every_of_all}
use Rattle.laws.specs.Ears.{Triangle, triangle}
use Rattle.laws.proofs.Ears.{triangulated}
use Rattle.laws.proofs.Removal.{length_places}
use Rattle.records.specs.Layout.{vertex_size, point_size, polygon_size, vertex_in, point_in, vertices_at, points_at, polygon_records, Small}
use Rattle.records.specs.Fixed.{point_fixed, fixed_count}
use Rattle.records.specs.Polygons.{length_records}
use Rattle.holes.specs.Fill.{place_words, cut_words, triangles_at, MeshReady, MeshedTo, FillReady, hole_polygons, filled_of, filled_in}
use Rattle.polys.specs.Rows.{row_size, wiped}
use Rattle.holes.specs.Places.{placed_words}

module _ {v : List ℕ} {vo nv at q m po nvp : ℕ} (r : FillReady v vo nv at q m po nvp) {w : List ℕ}
    (e : w ≡ splice v po (cut_words m (places_of (vertices_at v vo nv) (points_at v q m)) (triangulate (places_of (vertices_at v vo nv) (points_at v q m))))) where
  vs : List Vertex
  vs = vertices_at v vo nv

  hole : List ChainPoint
  hole = points_at v q m

  long_hole : length hole ≡ m
  unfolding hole
  long_hole = fixed_count point_fixed v q m

  long_places : length (places_of vs hole) ≡ m
  long_places = length_places vs hole ∙ long_hole

  -- there was no ear to cut
  pub stuck_words : {x : List ℕ} {k : ℕ} → triangulate (places_of (vertices_at v vo nv) (points_at v q m)) ≡ stuck k → x ≡ splice w po (replicate (m * 6 - 6) 0)
      → x ≡ filled_in v (vertices_at v vo nv) nvp at po (points_at v q m) (triangulate (places_of (vertices_at v vo nv) (points_at v q m)))
  unfolding filled_in cut_words vs hole
  stuck_words {x} {k} d f =
      let l : length (packed place_words (places_of vs hole) ++ replicate (m + (m - 2) * 3) 0) ≡ m * 6 - 6 =
      simp (length-append, length-replicate) (omega (arith, placed_words (places_of vs hole), long_places, r.cut.some)) in
      let C = packed place_words (places_of vs hole) ++ replicate (m + (m - 2) * 3) 0 in
      let g : w ≡ splice v po C = e ∙ rw d refl in
      f ∙ ap (λ (y : List ℕ). splice y po (replicate (m * 6 - 6) 0)) g
      ∙ splice_over v po C (replicate (m * 6 - 6) 0) (rw length-replicate (omega arith)) ∙ rw (d, long_hole) refl

  -- the triangles are there
  module _ (ts : List (List ℕ)) (d : triangulate (places_of (vertices_at v vo nv) (points_at v q m)) ≡ done ts) where
    P : List ℕ
    P = packed place_words (places_of (vertices_at v vo nv) (points_at v q m))

    Z : List ℕ
    Z = replicate m 0

    long_P : length P ≡ m * 2
    unfolding P vs hole
    long_P = placed_words (places_of vs hole) ∙ ap (λ (k : ℕ). k * 2) long_places

    all_three : All (Triangle m) ts
    unfolding vs hole
    all_three = rw long_places at (triangulated (places_of vs hole) ts (rw long_places r.cut.some) (omega (arith, long_places, r.cut.few)) d).inside

    many_ts : length ts ≡ m - 2
    unfolding vs hole
    many_ts = (triangulated (places_of vs hole) ts (rw long_places r.cut.some) (omega (arith, long_places, r.cut.few)) d).counts ∙ ap (λ (k : ℕ). k - 2) long_places

    Three : List ℕ → Type 0
    Three t = length t ≡ 3

    threes : {l : List (List ℕ)} → All (Triangle m) l → All Three l
    unfolding Three
    threes a = all_imp (λ t (x : Triangle m t). three_of x) a
      where
        three_of : {t : List ℕ} → Triangle m t → length t ≡ 3
        three_of (triangle h k l) = refl

    words : w ≡ splice v po (P ++ (Z ++ packed (λ t. t) ts))
    unfolding cut_words P Z
    words = e ∙ rw d refl

    every_three : Every Three (0 ∷ 0 ∷ 0 ∷ []) ts
    unfolding Three
    every_three = every_of_all Three (0 ∷ 0 ∷ 0 ∷ []) refl (threes all_three)

    T : List ℕ
    T = packed (λ t. t) ts

    long_T : length T ≡ length ts * 3
    unfolding Three T
    long_T = length_packed (λ t. t) 3 Three (0 ∷ 0 ∷ 0 ∷ []) (λ t h. h) ts every_three

    long_C : length (P ++ (Z ++ T)) ≡ m * 6 - 6
    unfolding Z
    long_C = simp (length-append, length-replicate) (omega (arith, long_P, long_T, many_ts, r.cut.some))

    long_w : length w ≡ length v
    long_w = ap length words ∙ length_splice v po _

    before_T : List ℕ
    before_T = splice (splice v po P) (po + length P) Z

    triangles_there : triangles_at w (po + m * 3) (length ts) ≡ ts
    unfolding triangles_at Three T Z before_T
    triangles_there =
        let z : length (replicate {A = ℕ} m 0) ≡ m = length-replicate m 0 in
        let o : po + length P + length Z ≡ po + m * 3 = omega (arith, long_P) in
        let lb : length before_T ≡ length v = length_splice (splice v po P) (po + length P) Z ∙ length_splice v po P in
        let g : w ≡ splice before_T (po + m * 3) T =
        words ∙ sym (splice_append v po P (Z ++ T)) ∙ sym (splice_append (splice v po P) (po + length P) Z T) ∙ ap (λ (k : ℕ). splice before_T k T) o in
        rw g (unpacked (λ t. t) 3 Three (0 ∷ 0 ∷ 0 ∷ []) (λ t h. h) before_T (po + m * 3) ts every_three
        (omega (arith, lb, many_ts, r.cut.room, r.cut.some)) (λ t. t) (λ t h. refl))

    same_points : points_at w q m ≡ points_at v q m
    unfolding points_at
    same_points = rw words (blocks_after point_in v po q point_size m _ r.cut.lay.behind)

    same_vertices : vertices_at w vo nv ≡ vertices_at v vo nv
    unfolding vertices_at
    same_vertices = rw words (blocks_after vertex_in v po vo vertex_size nv _ (omega (arith, r.cut.lay.before, r.cut.lay.behind)))

    pub fill_ready : {k : ℕ} → k ≡ length ts → MeshReady w vo nv at q m (po + m * 3) k nvp po
    fill_ready {k} c = record {
      shape = record {
        front = omega (arith, r.front, many_ts);
        behind = omega (arith, r.cut.lay.behind);
        fits = omega (arith, long_w, many_ts, r.cut.room, r.cut.some);
        within = rw (c, triangles_there) all_three;
      };
      placed = record { fits = omega (arith, long_w, r.cut.lay.placed.fits); grid = rw same_vertices r.cut.lay.placed.grid };
      before = r.before;
      named = rw same_points r.cut.lay.named;
      least = r.least;
      most = r.most;
      few = omega (arith, c, many_ts, r.cut.few);
      clear = r.cut.lay.behind;
      room = omega (arith, c, long_w, many_ts, r.cut.room, r.cut.some);
    }

    module _ {k n : ℕ} (c : k ≡ length ts) {u : List ℕ} (x : MeshedTo w u vo nv at q m (po + m * 3) k nvp n) where
      new : List Polygon
      new = hole_polygons (vertices_at v vo nv) nvp (points_at v q m) ts

      counted : n ≡ length new
      unfolding new
      counted = rw (same_vertices, same_points, c, triangles_there) at x.count

      pub fill_answer : Some n ≡ filled_of (vertices_at v vo nv) nvp (points_at v q m) (triangulate (places_of (vertices_at v vo nv) (points_at v q m)))
      unfolding filled_of new
      fill_answer = rw (d, counted) refl

      R : List ℕ
      R = polygon_records (new ++ replicate (m - 2 - length new) no_polygon)

      left : length ts - n ≡ m - 2 - length new
      left = omega (arith, many_ts, counted)

      small : Every Small no_polygon (new ++ replicate (m - 2 - length new) no_polygon)
      unfolding new
      small = rw left at (rw (same_vertices, same_points, c, triangles_there) at x.small)

      long_R : length R ≡ (m - 2) * polygon_size
      unfolding R
      long_R = length_records (new ++ replicate (m - 2 - length new) no_polygon) small
          ∙ ap (λ (j : ℕ). j * polygon_size) (simp (length-append, length-replicate) (omega (arith, x.fewer, many_ts, counted)))

      meshed_words : u ≡ splice w at R
      unfolding new R
      meshed_words = rw left at (rw (same_vertices, same_points, c, triangles_there) at x.is)

      pub fill_words : {y : List ℕ} → y ≡ splice u po (replicate (m * 6 - 6) 0)
          → y ≡ filled_in v (vertices_at v vo nv) nvp at po (points_at v q m) (triangulate (places_of (vertices_at v vo nv) (points_at v q m)))
      unfolding filled_in new R hole T
      fill_words {y} f =
          let C = P ++ (Z ++ T) in
          let g : u ≡ splice (splice v at R) po C =
          meshed_words ∙ ap (λ (l : List ℕ). splice l at R) words ∙ sym (splice_comm v at po R C (omega (arith, long_R, r.front, r.cut.lay.behind))) in
          f ∙ ap (λ (l : List ℕ). splice l po (replicate (m * 6 - 6) 0)) g
          ∙ splice_over (splice v at R) po C (replicate (m * 6 - 6) 0) (rw length-replicate (omega (arith, long_C))) ∙ rw (d, long_hole) refl

      -- the same, where the merge left zeros in the place of its rows
      pub fill_over : {z y : List ℕ} → z ≡ wiped u po k → y ≡ splice z po (replicate (m * 6 - 6) 0)
          → y ≡ filled_in v (vertices_at v vo nv) nvp at po (points_at v q m) (triangulate (places_of (vertices_at v vo nv) (points_at v q m)))
      unfolding wiped
      fill_over {z} {y} a f =
          let xs : List ℕ = replicate (k * row_size) 0 in
          let ys : List ℕ = replicate (m * 6 - 6) 0 in
          let lx : length xs ≡ k * row_size = length-replicate (k * row_size) 0 in
          let ly : length ys ≡ m * 6 - 6 = length-replicate (m * 6 - 6) 0 in
          fill_words (f ∙ ap (λ (l : List ℕ). splice l po ys) a ∙ splice_over u po xs ys (omega (arith, lx, ly, c, many_ts, r.cut.some)))
