-- The places of a polygon's corners as words, x and z of each: the loop that writes them, and what is read of them. Assumes nothing.
use mathlib.Core.Path.{◌≡◌, refl, sym, ◌∙◌, ap}
use mathlib.Core.List.{List, [], ◌∷◌}
use Prim.Native.Nat.{ℕ, zero, suc, ◌+◌, ◌*◌, ◌/◌, ◌≤◌, ◌<◌}
use native.Mathlib.Nat.{zero-add, add-zero}
use native.Mathlib.Omega.{arith}
use lib.ListN.{length, take, get_or, set, length-map, replicate}
use lib.Seq.{ext_get_or}
use Rattle.mem.specs.Slice.{view, splice, get_or_view, view_same, set_each, stored_each}
use Rattle.mem.specs.Tab.{tab, length_tab, get_or_tab}
use Rattle.mem.specs.Packed.{every_of, packed, length_packed, packed_view, Laid, laid_more, laid_all}
use Rattle.rules.specs.Plane.{origin, InGrid, area}
use Rattle.rules.specs.Checks.{vertex_stride}
use Rattle.rules.specs.declared.Point.{Point}
use Rattle.laws.specs.Lists.{All}
use Rattle.laws.proofs.Lists.{all_head, all_tail, all_of_lem, get_or_map_in}
use Rattle.plane.specs.Points.{point_of, points_in, GridWords}
use Rattle.stored.specs.Stored.{place_in, places_of, place_words, PolygonReady}

pub many_places : (vs cs : List ℕ) → length (places_of vs cs) ≡ length cs
unfolding places_of
many_places vs cs = length-map cs (place_in vs)

two : (p : Point) → length (place_words p) ≡ 2
unfolding place_words
two p = refl

-- ---- the loop that writes them

abbrev pub Placed : List ℕ → List ℕ → List ℕ → List ℕ → ℕ → Type 0
Placed vs cs pts₀ pts c = Laid place_words pts₀ 0 (places_of vs cs) pts c

put_two : (w : List ℕ) (to : ℕ) (p : Point) → set (set w to p.x) (to + 1) p.z ≡ splice w to (place_words p)
unfolding place_words set_each
put_two w to p = stored_each w to p.x (p.z ∷ [])

place_at : (vs cs : List ℕ) (c : ℕ) → c < length cs → get_or (places_of vs cs) c origin ≡ place_in vs (get_or cs c 0)
unfolding places_of
place_at vs cs c h = get_or_map_in (place_in vs) cs c 0 origin h

module _ (vs cs : List ℕ) {pts₀ pts : List ℕ} {c : ℕ} (r : Placed vs cs pts₀ pts c) where
  pub placed_more : c < length cs
      → Placed vs cs pts₀ (set (set pts (c * 2) (get_or vs (get_or cs c 0 * vertex_stride) 0)) (c * 2 + 1) (get_or vs (get_or cs c 0 * vertex_stride + 2) 0)) (c + 1)
  unfolding place_in
  placed_more h =
      laid_more place_words pts₀ 0 (places_of vs cs) r 2 (λ p. Unit) origin (λ p i. two p) (every_of _ origin (places_of vs cs) (λ i. tt))
      (rw (many_places vs cs) h)
      (rw (zero-add (c * 2), place_at vs cs c h) (put_two pts (c * 2) (place_in vs (get_or cs c 0))))

  pub placed_all : length cs ≤ c → pts ≡ splice pts₀ 0 (packed place_words (places_of vs cs))
  placed_all h = laid_all place_words pts₀ 0 (places_of vs cs) r (rw (many_places vs cs) h)

-- ---- the words of a list of places are those places again

length_words : (l : List Point) → length (packed place_words l) ≡ length l * 2
length_words l = length_packed place_words 2 (λ p. Unit) origin (λ p i. two p) l (every_of _ origin l (λ i. tt))

point_again : (l : List Point) (i : ℕ) → i < length l → point_of (packed place_words l) i ≡ get_or l i origin
unfolding point_of place_words
point_again l i h =
    let e : view (packed place_words l) (i * 2) 2 ≡ place_words (get_or l i origin) =
    packed_view place_words 2 (λ p. Unit) origin (λ p j. two p) l i (every_of _ origin l (λ j. tt)) h in
    let x : get_or (packed place_words l) (i * 2) 0 ≡ (get_or l i origin).x =
    rw (add-zero (i * 2)) at (sym (get_or_view (packed place_words l) (i * 2) 2 0 0 (omega arith)) ∙ ap (λ (v : List ℕ). get_or v 0 0) e) in
    let z : get_or (packed place_words l) (i * 2 + 1) 0 ≡ (get_or l i origin).z =
    sym (get_or_view (packed place_words l) (i * 2) 2 1 0 (omega arith)) ∙ ap (λ (v : List ℕ). get_or v 1 0) e in
    rw (x, z)

points_again : (l : List Point) → points_in (packed place_words l) ≡ l
unfolding points_in
points_again l =
    let e : length (packed place_words l) / 2 ≡ length l = rw (length_words l) (omega arith) in
    rw e (ext_get_or origin (tab (point_of (packed place_words l)) (length l)) l (length_tab _ (length l))
    (λ i a. let h : i < length l = rw length_tab at a in get_or_tab _ (length l) i origin h ∙ point_again l i h))

words_small : (l : List Point) → All InGrid l → (k : ℕ) → get_or (packed place_words l) k 0 ≤ 32767
unfolding packed place_words
words_small [] a k = omega arith
words_small (p ∷ l) a zero = (all_head a).x_small
words_small (p ∷ l) a (suc zero) = (all_head a).z_small
words_small (p ∷ l) a (suc (suc k)) = words_small l (all_tail a) k

-- ---- the area of a polygon whose places stand at the beginning of an array of 24 words

pub places_grid : {vs cs : List ℕ} → PolygonReady vs cs → All InGrid (places_of vs cs)
unfolding place_in
places_grid {vs} {cs} g =
    all_of_lem (places_of vs cs) origin
    (λ i a. let h : i < length cs = rw (many_places vs cs) at a in
    rw (place_at vs cs i h) (record { x_small = (g.grid i h).0; z_small = (g.grid i h).1 }))

module _ {vs cs pts : List ℕ} (g : PolygonReady vs cs) (e : pts ≡ splice (replicate 24 0) 0 (packed place_words (places_of vs cs))) where
  words_there : take (length cs * 2) pts ≡ packed place_words (places_of vs cs)
  words_there =
      rw e (view_same (replicate 24 0) 0 (length cs * 2) (packed place_words (places_of vs cs))
      (length_words (places_of vs cs) ∙ ap (λ (n : ℕ). n * 2) (many_places vs cs)) (omega (arith, g.few)))

  pub words_many : length cs * 2 ≡ length (take (length cs * 2) pts)
  words_many = sym (ap length words_there ∙ length_words (places_of vs cs) ∙ ap (λ (n : ℕ). n * 2) (many_places vs cs))

  pub words_grid : GridWords (take (length cs * 2) pts)
  words_grid = record { small = rw words_there (words_small (places_of vs cs) (places_grid g)); few = omega (arith, words_many, g.few) }

  pub words_area : area (points_in (take (length cs * 2) pts)) ≡ area (places_of vs cs)
  words_area = ap area (rw words_there (points_again (places_of vs cs)))
