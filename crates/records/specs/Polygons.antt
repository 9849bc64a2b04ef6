-- What is stored is what is loaded: laws of polygon records, of polygons by value, and of the functions that read and write them. Assumes nothing.
-- Key: `polygons_are`: the polygons read from records are those that the records were made of; `put_are`: one of them written anew.
use Rattle.std.specs.Prelude.{◌≡◌, List, [], ◌∷◌, ◌++◌, ℕ, zero, suc, ◌+◌, ◌-◌, ◌*◌, ◌≤◌, ◌<◌, length, drop, get_or, set, replicate}
use Rattle.std.proofs.Math.Path.{refl, ap}
use Rattle.std.proofs.Common.{sym, ◌∙◌, append_assoc, arith, add-zero, zero-add, length-append, length-take, length-drop, take_all, take_at, take-suc-set, length-take-le, get_or-take}
use Rattle.std.proofs.Math.Nat.{sub-zero, zero-sub, suc-sub-suc}
use Rattle.std.proofs.Math.ListN.{take, length-set}
use Rattle.std.proofs.lemmas.List.{length-replicate, take-append-le}
use borrow.Rule.Slice.PartMut.{put_mid, mid_of}
use Rattle.mem.specs.Slice.{view, splice, length_splice, splice_over, splice_eq, length_view, view_view, get_or_view, splice_append, write_step, set_each, stored_each}
use Rattle.mem.specs.Tab.{blocks, get_or_blocks, length_blocks, Filled, filled_all, tab_view, tab_take, take_tab}
use Rattle.mem.specs.Packed.{Every, every_at, every_set, length_packed, packed_append, packed_put, unpacked}
use Rattle.rules.specs.Lists.{next, swap_remove}
use Rattle.rules.specs.Links.{none}
use Rattle.rules.specs.Exits.{padded}
use Rattle.rules.specs.Mesh.{Polygon, no_polygon, polygon_at, side_end}
use Rattle.laws.proofs.Ring.{next_below}
use Rattle.laws.specs.Lists.{All}
use Rattle.laws.proofs.Lists.{all_at}
use Rattle.laws.specs.Merge.{Below}
use Rattle.records.specs.declared.polygon.Poly.{Poly}
use Rattle.records.specs.Layout.{polygon_size, most_corners, spare_words, polygon_in, polygons_at, polygon_words, polygon_records, Small, Tidy}
use Rattle.records.specs.Stored.{stored}
use Rattle.records.specs.Values.{to_poly, corners_of, polygon_of, poly_words, Loaded, On, SwapReady}

-- ---- the words of a polygon's corners

drop_replicate : (k m : ℕ) → drop k (replicate m none) ≡ replicate (m - k) none
drop_replicate zero m = rw (sub-zero m) refl
drop_replicate (suc k) zero = rw (zero-sub (suc k)) refl
drop_replicate (suc k) (suc m) = rw (suc-sub-suc m k) (drop_replicate k m)

pub padded_splice : (n : ℕ) (cs : List ℕ) → length cs ≤ n → splice (replicate n none) 0 cs ≡ padded n cs
unfolding padded
padded_splice n cs h =
    splice_eq (replicate n none) 0 cs (rw (length-replicate n none) (omega arith))
    ∙ ap (λ (r : List ℕ). cs ++ r) (rw (zero-add (length cs)) (drop_replicate (length cs) n))

pub length_padded : (n : ℕ) (cs : List ℕ) → length cs ≤ n → length (padded n cs) ≡ n
unfolding padded
length_padded n cs h = simp (length-append, length-replicate) (omega arith)

pub take_padded : (n : ℕ) (cs : List ℕ) → take (length cs) (padded n cs) ≡ cs
unfolding padded
take_padded n cs = take_at cs (replicate (n - length cs) none) (length cs) refl

-- ---- values

pub poly_eq : (r : Poly) (p : Polygon) → r.corners ≡ padded most_corners p.corners → r.n ≡ length p.corners → r.region ≡ p.region → r.code ≡ p.code
    → r ≡ to_poly p
unfolding to_poly
poly_eq r p e f g h = λ i. record { corners = e i; n = f i; region = g i; code = h i }

of_to_poly : (p : Polygon) → polygon_of (to_poly p) ≡ p
unfolding polygon_of corners_of to_poly
of_to_poly p = λ i. record { corners = take_padded most_corners p.corners i; region = p.region; code = p.code }

pub loaded_of : {p : Polygon} {r : Poly} → Loaded p r → polygon_of r ≡ p
loaded_of l = ap polygon_of l.is ∙ of_to_poly _

pub loaded_corners : {p : Polygon} {r : Poly} → Loaded p r → corners_of r ≡ p.corners
unfolding polygon_of
loaded_corners l = ap (λ (x : Polygon). x.corners) (loaded_of l)

words_to_poly : (p : Polygon) → poly_words (to_poly p) ≡ polygon_words p
unfolding poly_words to_poly polygon_words
words_to_poly p = refl

pub stored_words : (p : Polygon) {r : Poly} → r ≡ to_poly p → poly_words r ≡ polygon_words p
stored_words p e = ap poly_words e ∙ words_to_poly p

pub length_corners : (p : Poly) → length p.corners ≡ most_corners → p.n ≤ most_corners → length (corners_of p) ≡ p.n
unfolding corners_of
length_corners p l h = length-take-le p.n p.corners (omega arith)

pub get_or_corners : (p : Poly) (i : ℕ) → i < p.n → get_or (corners_of p) i 0 ≡ get_or p.corners i 0
unfolding corners_of
get_or_corners p i h = get_or-take p.n p.corners i 0 h

module _ (p : Poly) (l : length p.corners ≡ most_corners) (i : ℕ) (o : On p i) where
  pub corner_is : get_or p.corners i 0 ≡ get_or (corners_of p) i 0
  corner_is = sym (get_or_corners p i o.below)

  pub end_is : (k : ℕ) → k ≡ next i p.n → get_or (corners_of p) k 0 ≡ side_end (corners_of p) i
  end_is k e = rw (length_corners p l o.most, e)

  -- the side after it
  pub on_next : (k : ℕ) → k ≡ next i p.n → On p k
  on_next k e = record { below = rw e (next_below i p.n (omega (arith, o.below))); most = o.most }

-- a corner is one of nv vertices where all are
pub below_at : (p : Poly) (nv i : ℕ) → length p.corners ≡ most_corners → All (Below nv) (corners_of p) → On p i → get_or (corners_of p) i 0 < nv
below_at p nv i l h o = all_at h i 0 (rw (length_corners p l o.most) o.below)

-- ---- records

pub length_words : (p : Polygon) → Small p → length (polygon_words p) ≡ polygon_size
unfolding polygon_words
length_words p h = simp (length-append, length-replicate) (omega (arith, length_padded most_corners p.corners h))

in_words : (p : Polygon) → Small p → polygon_in (polygon_words p) ≡ p
unfolding polygon_in polygon_words
in_words p h = λ i. record {
  corners = (take-append-le (length p.corners) (padded most_corners p.corners) (replicate spare_words 0) (rw (length_padded most_corners p.corners h) h)
      ∙ take_padded most_corners p.corners) i;
  region = p.region;
  code = p.code;
}

pub length_polygons : (w : List ℕ) (o n : ℕ) → length (polygons_at w o n) ≡ n
unfolding polygons_at
length_polygons w o n = length_blocks polygon_in w o polygon_size n

pub length_records : (ps : List Polygon) → Every Small no_polygon ps → length (polygon_records ps) ≡ length ps * polygon_size
unfolding polygon_records
length_records ps h = length_packed polygon_words polygon_size Small no_polygon length_words ps h

pub records_append : (ps qs : List Polygon) → polygon_records (ps ++ qs) ≡ polygon_records ps ++ polygon_records qs
unfolding polygon_records
records_append ps qs = packed_append polygon_words ps qs

module _ {w : List ℕ} (v : List ℕ) (o n : ℕ) (ps : List Polygon) (e : w ≡ splice v o (polygon_records ps)) (l : length ps ≡ n) (all : Every Small no_polygon ps)
    (fits : o + n * polygon_size ≤ length v) where
  pub polygons_are : polygons_at w o n ≡ ps
  unfolding polygons_at polygon_records
  polygons_are = rw (e, ← l) (unpacked polygon_words polygon_size Small no_polygon length_words v o ps all (rw l fits) polygon_in in_words)

  pub put_are : (i : ℕ) (p : Polygon) → Small p → i < n → splice w (o + i * polygon_size) (polygon_words p) ≡ splice v o (polygon_records (set ps i p))
  unfolding polygon_records
  put_are i p s h = rw e (packed_put polygon_words polygon_size Small no_polygon length_words v o ps all (rw l fits) i p s (rw l h))

  pub tidy_of : Tidy w o n
  tidy_of = record {
    is = rw polygons_are (e ∙ sym (splice_over v o (polygon_records ps) (polygon_records ps) (omega arith))
        ∙ ap (λ (x : List ℕ). splice x o (polygon_records ps)) (sym e));
  }

-- the first m of n polygons, and one of them
pub polygons_take : (w : List ℕ) (o n m : ℕ) → m ≤ n → take m (polygons_at w o n) ≡ polygons_at w o m
unfolding polygons_at blocks
polygons_take w o n m h = take_tab _ n m h

pub polygon_at_lem : (w : List ℕ) (o n i : ℕ) → i < n → polygon_at (polygons_at w o n) i ≡ polygon_in (view w (o + i * polygon_size) polygon_size)
unfolding polygons_at
polygon_at_lem w o n i h = get_or_blocks polygon_in w o polygon_size n i no_polygon h

-- ---- `load_poly` and `store_poly`

module _ (w : List ℕ) (at : ℕ) (fits : at + polygon_size ≤ length w) where
  first : get_or (view w at polygon_size) 0 0 ≡ get_or w at 0
  first = get_or_view w at polygon_size 0 0 (omega arith) ∙ ap (λ (k : ℕ). get_or w k 0) (add-zero at)

  long : (n : ℕ) → length (take n (drop 3 (view w at polygon_size))) ≤ most_corners → n ≤ most_corners
  long n h = omega (arith, length-take n (drop 3 (view w at polygon_size)), length-drop 3 (view w at polygon_size), length_view w at polygon_size fits)

  pub count_small : Small (polygon_in (view w at polygon_size)) → get_or w at 0 ≤ most_corners
  unfolding polygon_in
  count_small h = long (get_or w at 0) (rw first at h)

  pub in_view : (n r a : ℕ) → get_or w at 0 ≡ n → n ≤ most_corners → get_or w (at + 1) 0 ≡ r → get_or w (at + 2) 0 ≡ a
      → ◌≡◌ {A = Polygon} (polygon_in (view w at polygon_size)) (record { corners = view w (at + 3) n; region = r; code = a })
  unfolding polygon_in
  in_view n r a e h f g = λ i. record {
    corners = cs i;
    region = (get_or_view w at polygon_size 1 0 (omega arith) ∙ f) i;
    code = (get_or_view w at polygon_size 2 0 (omega arith) ∙ g) i;
  }
    where
      cs : take (get_or (view w at polygon_size) 0 0) (drop 3 (view w at polygon_size)) ≡ view w (at + 3) n
      cs = rw (first, e) (view_view w at polygon_size 3 n (omega arith))

  pub loaded_made : {n : ℕ} {cs : List ℕ} → n ≡ get_or w at 0 → get_or w at 0 ≤ most_corners → cs ≡ take (at + 3 + n - (at + 3)) (drop (at + 3) w)
      → Loaded (polygon_in (view w at polygon_size)) (record { corners = cs ++ drop n (replicate most_corners none); n = n; region = get_or w (at + 1) 0; code = get_or w (at + 2) 0 })
  unfolding padded
  loaded_made {n} {cs} e h f =
      let k : at + 3 + n - (at + 3) ≡ n = omega arith in
      let same : cs ≡ view w (at + 3) n = rw k at f in
      let long : length (view w (at + 3) n) ≡ n = length_view w (at + 3) n (omega arith) in
      let made : cs ++ drop n (replicate most_corners none) ≡ padded most_corners (view w (at + 3) n) =
      rw (same, drop_replicate n most_corners, long) in
      rw (in_view n (get_or w (at + 1) 0) (get_or w (at + 2) 0) (sym e) (omega arith) refl refl)
      (record { is = poly_eq _ _ made (sym long) refl refl; count = sym long; most = omega arith })

  -- the same of corners that are filled in one after the other
  pub loaded_filled : {n i : ℕ} {c : List ℕ} → n ≡ get_or w at 0 → get_or w at 0 ≤ most_corners
      → Filled (replicate most_corners none) 0 (λ k. get_or w (at + 3 + k) 0) n c i → n ≤ i
      → Loaded (polygon_in (view w at polygon_size)) (record { corners = c; n = n; region = get_or w (at + 1) 0; code = get_or w (at + 2) 0 })
  loaded_filled {n} {i} {c} e h f l =
      let cs : List ℕ = view w (at + 3) n in
      let long : length cs ≡ n = length_view w (at + 3) n (omega arith) in
      let made : c ≡ padded most_corners cs = filled_all f l ∙ rw (tab_view w (at + 3) n 0 (omega arith)) (padded_splice most_corners cs (omega arith)) in
      rw (in_view n (get_or w (at + 1) 0) (get_or w (at + 2) 0) (sym e) (omega arith) refl refl)
      (record { is = poly_eq _ _ made (sym long) refl refl; count = sym long; most = omega arith })

-- the three first words, the corners one after the other, and three words behind them are written
pub stored_all : (w : List ℕ) (at : ℕ) (p : Poly) {v : List ℕ} {i : ℕ} → length p.corners ≡ most_corners
    → Filled (set (set (set w at p.n) (at + 1) p.region) (at + 2) p.code) (at + 3) (λ k. get_or p.corners k 0) most_corners v i → most_corners ≤ i
    → set (set (set v (at + 15) 0) (at + 15 + 1) 0) (at + 15 + 2) 0 ≡ splice w at (poly_words p)
unfolding poly_words set_each
stored_all w at p {v} {i} l f h =
    let xs : List ℕ = p.n ∷ p.region ∷ p.code ∷ [] in
    let e : set (set (set w at p.n) (at + 1) p.region) (at + 2) p.code ≡ splice w at xs =
    stored_each w at p.n (p.region ∷ p.code ∷ []) in
    let g : v ≡ splice w at (xs ++ p.corners) =
    filled_all f h ∙ rw (e, tab_take p.corners most_corners 0 (omega arith), take_all most_corners p.corners (omega arith)) (splice_append w at xs p.corners) in
    let a : at + 15 + 1 ≡ at + 16 = omega arith in
    let b : at + 15 + 2 ≡ at + 17 = omega arith in
    rw (a, b)
    (ap (λ (u : List ℕ). set (set u (at + 16) 0) (at + 17) 0) (write_step w at 15 (xs ++ p.corners) 0 g (omega arith))
    ∙ ap (λ (u : List ℕ). set u (at + 17) 0) (write_step w at 16 ((xs ++ p.corners) ++ (0 ∷ [])) 0 refl (simp length-append (omega arith)))
    ∙ write_step w at 17 (((xs ++ p.corners) ++ (0 ∷ [])) ++ (0 ∷ [])) 0 refl (simp length-append (omega arith))
    ∙ ap (splice w at) (ap (λ (u : List ℕ). u ++ (0 ∷ [])) (append_assoc (xs ++ p.corners) (0 ∷ []) (0 ∷ [])) ∙ append_assoc (xs ++ p.corners) (0 ∷ 0 ∷ []) (0 ∷ [])))

-- the three first words, the corners and the words behind them are written
pub stored_poly : (w : List ℕ) (at : ℕ) (p : Poly) {v cs zs : List ℕ} → length p.corners ≡ most_corners → cs ≡ p.corners
    → v ≡ put_mid (at + 3) (at + 15 - (at + 3)) (set (set (set w at p.n) (at + 1) p.region) (at + 2) p.code) cs
    → zs ≡ replicate (length (mid_of (at + 15) (at + 18 - (at + 15)) v)) 0 → at + polygon_size ≤ length w
    → put_mid (at + 15) (at + 18 - (at + 15)) v zs ≡ splice w at (poly_words p)
unfolding poly_words set_each
stored_poly w at p {v} {cs} {zs} l q is z h =
    let first : List ℕ = p.n ∷ p.region ∷ p.code ∷ [] in
    let front : List ℕ = first ++ p.corners in
    let u : List ℕ = set (set (set w at p.n) (at + 1) p.region) (at + 2) p.code in
    let stands : u ≡ splice w at first = stored_each w at p.n (p.region ∷ p.code ∷ []) in
    let written : v ≡ splice w at front =
    is ∙ stored u (at + 3) most_corners p.corners (omega arith) q l (rw (stands, length_splice w at first) (omega arith))
    ∙ rw stands (splice_append w at first p.corners) in
    let k : at + 18 - (at + 15) ≡ spare_words = omega arith in
    let room : at + 15 + spare_words ≤ length v = rw (written, length_splice w at front) (omega arith) in
    let zeros : zs ≡ replicate spare_words 0 = rw (k, length_view v (at + 15) spare_words room) at z in
    let long : length front ≡ 15 = omega (arith, l) in
    stored v (at + 15) spare_words (replicate spare_words 0) k zeros refl room
    ∙ rw written (rw long at (splice_append w at front (replicate spare_words 0)))

-- ---- `swap_remove`: the last takes the place of the one that goes, and a blank one that of the last

-- the last of a list, written anew
set_last : (l : List Polygon) (n : ℕ) (p : Polygon) → length l ≡ n → 0 < n → set l (n - 1) p ≡ take (n - 1) l ++ (p ∷ [])
set_last l n p e h =
    let q : length (set l (n - 1) p) ≤ suc (n - 1) = rw length-set (omega arith) in
    sym (take_all (suc (n - 1)) (set l (n - 1) p) q) ∙ take-suc-set l (n - 1) p (omega arith)

module _ (w : List ℕ) (o np i : ℕ) (ready : SwapReady w o np i) where
  ps : List Polygon
  ps = polygons_at w o np

  swapped : List Polygon
  swapped = set ps i (polygon_at ps (np - 1))

  module _ {w₁ w₂ : List ℕ} {l z : Poly} (ll : Loaded (polygon_at (polygons_at w o np) (np - 1)) l) (e₁ : w₁ ≡ splice w (o + i * polygon_size) (poly_words l))
      (ez : z ≡ to_poly no_polygon) (e₂ : w₂ ≡ splice w₁ (o + (np - 1) * polygon_size) (poly_words z)) where
    all₁ : Every Small no_polygon swapped
    unfolding swapped ps
    all₁ = every_set Small no_polygon ps i (polygon_at ps (np - 1)) ready.all (every_at Small no_polygon ps ready.all (np - 1))

    long₁ : length swapped ≡ np
    unfolding swapped ps
    long₁ = length-set ps i (polygon_at ps (np - 1)) ∙ length_polygons w o np

    step₁ : w₁ ≡ splice w o (polygon_records swapped)
    unfolding swapped ps
    step₁ =
        e₁ ∙ ap (splice w (o + i * polygon_size)) (stored_words (polygon_at ps (np - 1)) ll.is)
        ∙ put_are w o np ps ready.tidy.is (length_polygons w o np) ready.all ready.fits i (polygon_at ps (np - 1))
        (every_at Small no_polygon ps ready.all (np - 1)) ready.below

    cut : take (np - 1) swapped ≡ swap_remove no_polygon (polygons_at w o np) i
    unfolding swap_remove swapped ps
    cut = rw (length_polygons w o np) refl

    pub swap_steps : w₂ ≡ splice w o (polygon_records (swap_remove no_polygon (polygons_at w o np) i ++ (no_polygon ∷ [])))
    swap_steps =
        e₂ ∙ ap (splice w₁ (o + (np - 1) * polygon_size)) (stored_words no_polygon ez)
        ∙ put_are w o np swapped step₁ long₁ all₁ ready.fits (np - 1) no_polygon (omega arith) (omega (arith, ready.below))
        ∙ ap (λ (x : List Polygon). splice w o (polygon_records x))
        (set_last swapped np no_polygon long₁ (omega (arith, ready.below)) ∙ ap (λ (x : List Polygon). x ++ (no_polygon ∷ [])) cut)
