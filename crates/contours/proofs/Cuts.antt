-- The places of a contour laid out, and cut: a loop writes one place after the other, and what is read back from their words are the places. Assumes nothing.
use mathlib.Core.Path.{◌≡◌, refl, sym, ap, ◌∙◌}
use mathlib.Core.List.{List, [], ◌∷◌, ◌++◌}
use Prim.Native.Nat.{ℕ, ◌+◌, ◌-◌, ◌*◌, ◌^◌, ◌≤◌, ◌<◌}
use native.Mathlib.Omega.{arith}
use lib.ListN.{length, take, drop, get_or, set, replicate, length-append, length-replicate, length-map}
use lib.Seq.{take-take}
use Rattle.mem.specs.Slice.{view, splice, length_splice, splice_over, splice_append, view_same, length_view}
use Rattle.mem.specs.Packed.{Every, every_of, packed, length_packed, unpacked, Laid, laid_more, laid_all}
use Rattle.rules.specs.Plane.{origin, on_plane, InGrid}
use Rattle.rules.specs.Weld.{no_vertex}
use Rattle.rules.specs.Job.{vertex_at, contour_vertices}
use Rattle.rules.specs.Ears.{Ears, done, stuck, triangulate}
use Rattle.rules.specs.declared.Point.{Point}
use Rattle.laws.specs.Lists.{All}
use Rattle.laws.proofs.Lists.{all_of_lem, all_imp, every_of_all, get_or_map_in}
use Rattle.laws.specs.Ears.{Triangle, triangle, Triangulated}
use Rattle.laws.proofs.Ears.{triangulated}
use Rattle.laws.proofs.Contours.{length_contour, get_or_contour}
use Rattle.plane.specs.Points.{points_in}
use Rattle.ears.specs.Part.{Laid as EarsLaid, points_of, cut_in}
use Rattle.holes.specs.Fill.{place_words, cut_words, triangles_at}
use Rattle.holes.specs.Places.{two, put_two, placed_words, points_back, grid_words}
use Rattle.contours.specs.Cutting.{places_in, LayReady, CutReady}

-- ---- places and their words

pub length_places : (ns : List ℕ) (first n : ℕ) → length (places_in ns first n) ≡ n
length_places ns first n = length-map (contour_vertices ns first n) on_plane ∙ length_contour ns first n

place_is : (ns : List ℕ) (first n k : ℕ) → k < n → get_or (places_in ns first n) k origin ≡ on_plane (vertex_at ns (first + k))
place_is ns first n k h =
    get_or_map_in on_plane (contour_vertices ns first n) k no_vertex origin (rw (length_contour ns first n) h) ∙ ap on_plane (get_or_contour ns first n k h)

-- ---- the places are laid out

abbrev pub Laying : (v ns : List ℕ) (first n po : ℕ) → List ℕ → ℕ → Type 0
Laying v ns first n po w k = Laid place_words v po (places_in ns first n) w k

module _ {v ns : List ℕ} {first n po : ℕ} (r : LayReady v ns first n po) {w : List ℕ} {k : ℕ} (s : Laying v ns first n po w k) where
  pub lay_more : {p : Point} → k < n → p ≡ on_plane (vertex_at ns (first + k)) → Laying v ns first n po (set (set w (po + k * 2) p.x) (po + k * 2 + 1) p.z) (k + 1)
  lay_more {p} h f =
      laid_more place_words v po _ s 2 (λ x. Unit) origin (λ x t. two x) (every_of (λ x. Unit) origin _ (λ i. tt)) (rw (length_places ns first n) h)
      (put_two w (po + k * 2) p ∙ ap (λ (x : Point). splice w (po + k * 2) (place_words x)) (f ∙ sym (place_is ns first n k h)))

  pub lay_all : n ≤ k → w ≡ splice v po (packed place_words (places_in ns first n))
  lay_all h = laid_all place_words v po _ s (omega (arith, length_places ns first n))

-- ---- and cut

module _ {v ns : List ℕ} {first n po : ℕ} (r : CutReady v ns first n po) {w : List ℕ} (e : w ≡ splice v po (packed place_words (places_in ns first n))) where
  P : List ℕ
  P = packed place_words (places_in ns first n)

  long_P : length P ≡ n * 2
  unfolding P
  long_P = placed_words (places_in ns first n) ∙ ap (λ (k : ℕ). k * 2) (length_places ns first n)

  long_w : length w ≡ length v
  long_w = ap length e ∙ length_splice v po _

  front : take (n * 2) (view w po (n * 6 - 6)) ≡ P
  unfolding P
  front =
      take-take (n * 2) (n * 6 - 6) (drop po w) (omega (arith, r.some))
      ∙ ap (λ (l : List ℕ). view l po (n * 2)) e ∙ view_same v po (n * 2) P long_P r.lay.fits

  on_grid : All InGrid (places_in ns first n)
  on_grid = all_of_lem (places_in ns first n) origin (λ k a. let h : k < n = rw (length_places ns first n) at a in rw (place_is ns first n k h) (r.grid k h))

  pub cut_laid : EarsLaid n (view w po (n * 6 - 6))
  unfolding P
  cut_laid = record {
    some = r.some;
    few = r.few;
    size = omega (arith, length_view w po (n * 6 - 6) (omega (arith, long_w, r.room)), r.some);
    grid = rw front (record { small = grid_words (places_in ns first n) on_grid; few = omega (arith, long_P, r.few) });
  }

  pub cut_places : points_of n (view w po (n * 6 - 6)) ≡ places_in ns first n
  unfolding P
  cut_places = ap points_in front ∙ points_back (places_in ns first n)

  cut_in_lem : (t : Ears) → splice w po (cut_in n (view w po (n * 6 - 6)) t) ≡ splice v po (cut_words n (places_in ns first n) t)
  unfolding cut_in cut_words P
  cut_in_lem (done ts) = rw (front, e) (splice_over v po P (P ++ (replicate n 0 ++ packed (λ t. t) ts)) (simp length-append (omega arith)))
  cut_in_lem (stuck k) = rw (front, e) (splice_over v po P (P ++ replicate (n + (n - 2) * 3) 0) (simp length-append (omega arith)))

  pub cut_words_lem : {u : List ℕ} → u ≡ splice w po (cut_in n (view w po (n * 6 - 6)) (triangulate (points_of n (view w po (n * 6 - 6)))))
      → u ≡ splice v po (cut_words n (places_in ns first n) (triangulate (places_in ns first n)))
  cut_words_lem {u} f = f ∙ rw cut_places (cut_in_lem (triangulate (places_in ns first n)))

-- ---- what the cutting leaves

module _ (ns : List ℕ) (first n : ℕ) (some : 3 ≤ n) (few : n < 2 ^ 28) where
  Q : List ℕ
  Q = packed place_words (places_in ns first n)

  long_Q : length Q ≡ n * 2
  unfolding Q
  long_Q = placed_words (places_in ns first n) ∙ ap (λ (k : ℕ). k * 2) (length_places ns first n)

  module _ (ts : List (List ℕ)) (d : triangulate (places_in ns first n) ≡ done ts) where
    right : Triangulated (places_in ns first n) ts
    right = let l = length_places ns first n in triangulated (places_in ns first n) ts (omega arith) (omega arith) d

    pub all_three : All (Triangle n) ts
    all_three = rw (length_places ns first n) at right.inside

    pub triangle_count : length ts ≡ n - 2
    triangle_count = right.counts ∙ ap (λ (k : ℕ). k - 2) (length_places ns first n)

    Three : List ℕ → Type 0
    Three t = length t ≡ 3

    three_of : {t : List ℕ} → Triangle n t → length t ≡ 3
    three_of (triangle h k l) = refl

    every_three : Every Three (0 ∷ 0 ∷ 0 ∷ []) ts
    unfolding Three
    every_three = every_of_all Three (0 ∷ 0 ∷ 0 ∷ []) refl (all_imp (λ t (x : Triangle n t). three_of x) all_three)

    long_triangles : length (packed (λ t. t) ts) ≡ length ts * 3
    unfolding Three
    long_triangles = length_packed (λ t. t) 3 Three (0 ∷ 0 ∷ 0 ∷ []) (λ t h. h) ts every_three

    -- the triangles, read from their words
    pub triangles_there : (v : List ℕ) (po : ℕ) → po + (n * 6 - 6) ≤ length v → triangles_at (splice v po (cut_words n (places_in ns first n) (done ts))) (po + n * 3) (length ts) ≡ ts
    unfolding triangles_at Three Q cut_words
    triangles_there v po h =
        let Z : List ℕ = replicate n 0 in
        let z : length Z ≡ n = length-replicate n 0 in
        let o : po + length Q + length Z ≡ po + n * 3 = omega (arith, long_Q) in
        let b : List ℕ = splice (splice v po Q) (po + length Q) Z in
        let lb : length b ≡ length v = length_splice (splice v po Q) (po + length Q) Z ∙ length_splice v po Q in
        let e : splice v po (Q ++ (Z ++ packed (λ t. t) ts)) ≡ splice b (po + n * 3) (packed (λ t. t) ts) =
        sym (splice_append v po Q (Z ++ packed (λ t. t) ts)) ∙ sym (splice_append (splice v po Q) (po + length Q) Z (packed (λ t. t) ts))
        ∙ ap (λ (k : ℕ). splice b k (packed (λ t. t) ts)) o in
        rw e (unpacked (λ t. t) 3 Three (0 ∷ 0 ∷ 0 ∷ []) (λ t h. h) b (po + n * 3) ts every_three (omega (arith, lb, triangle_count)) (λ t. t) (λ t h. refl))

  pub long_cut : (t : Ears) → triangulate (places_in ns first n) ≡ t → length (cut_words n (places_in ns first n) t) ≡ n * 6 - 6
  unfolding cut_words Q
  long_cut (done ts) d = simp (length-append, length-replicate) (omega (arith, long_Q, long_triangles ts d, triangle_count ts d))
  long_cut (stuck k) d = simp (length-append, length-replicate) (omega (arith, long_Q))
