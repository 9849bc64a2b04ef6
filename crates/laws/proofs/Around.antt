-- R5, the polygons around a vertex: their untouched sides have their area as seen from the vertex, and are two fewer than their corners; those that go and
-- those that stay are all of them. Assumes nothing.
-- Key: `took_out`: those that go and those that stay are all polygons; `area_untouched`, `length_untouched`: what their sides have; `polygon_few`:
-- how many neighbours the vertex has in a polygon.
use Rattle.std.specs.Prelude.{ℕ, zero, suc, ◌+◌, ◌-◌, ◌*◌, ◌≤◌, ◌<◌, ◌≡◌, Bool, cond, ◌&&◌, ◌||◌, leb, ltb, length, take, drop, get_or, set, ℤ, pos}
use Rattle.std.proofs.Common.{arith, add-one, ◌∙◌, ap, ⊎_elim, eqb-true, leb-true, ltb-true, ltb-false, le-leb, eq-eqb, length-append, drop_of_length-le, take-suc, drop-cons, take_all, take-take}
use Rattle.std.proofs.Math.Path.{refl, sym, ap₂}
use Rattle.std.proofs.Math.Bool.{true, false}
use mathlib.Core.List.Permᴰ
use mathlib.Core.List.{List, [], ◌∷◌, ◌++◌, map, append_assoc, append-nil, Permᴰ}
use Rattle.std.proofs.Math.Dec.{eqb}
use Rattle.std.proofs.lemmas.Bool.{eqb-false}
use Rattle.mem.specs.Cases.{lt_or_le}
use Rattle.std.proofs.lemmas.List.{take-set-le}
use Rattle.std.proofs.Math.IntN.{◌+ℤ◌, +ℤ_idr}
use Rattle.mem.specs.Loops.{over, run, times}
use Rattle.rules.specs.declared.Point.{Point}
use Rattle.rules.specs.declared.Side.{Side}
use Rattle.rules.specs.Plane.{D, area}
use Rattle.rules.specs.Lists.{prev, swap_remove, count}
use Rattle.rules.specs.Mesh.{Polygon, no_polygon, polygon_at, side_start, side_end}
use Rattle.rules.specs.Removal.{holds, untouched_side, side_into, untouched, TakingOut, take_one, taken_out, held_once, other_end, neighbours_in}
use Rattle.rules.specs.Areas.{sum_of}
use Rattle.laws.proofs.Tests.{run_all}
use Rattle.laws.specs.Lists.{All, none, more, gather}
use Rattle.laws.proofs.Lists.{all_append, all_at, all_of_lem, sum_append, map_append, last_split, swap_perm, swap_length}
use Rattle.laws.proofs.Ring.{next_in, next_out}
use Rattle.laws.specs.Sides.{path}
use Rattle.laws.proofs.Sides.{path_map, D-start, D-end}
use Rattle.laws.proofs.Outlines.{area_round}
use Rattle.laws.specs.Around.{seen, Clear, ClearSide, TookOut}

-- ---- the untouched sides, from one corner to the next
sides_on : ℕ → Polygon → ℕ → List ℕ → List Side
sides_on rem p a [] = []
sides_on rem p a (b ∷ l) = untouched_side rem p a b ++ sides_on rem p b l

pub prev_suc : (i n : ℕ) → prev (suc i) n ≡ i
unfolding prev
prev_suc i n = rw (le-leb 1 (suc i) (omega arith)) (omega arith)

run_on : (rem : ℕ) (p : Polygon) (m i : ℕ) → i + m ≡ length p.corners
    → run [] ◌++◌ (side_into rem p) i m ≡ sides_on rem p (get_or p.corners (prev i (length p.corners)) 0) (drop i p.corners)
unfolding run sides_on side_into
run_on rem p zero i e = rw (drop_of_length-le p.corners {i = i} (omega arith)) refl
run_on rem p (suc m) i e =
    rw (drop-cons p.corners i 0 (omega arith), run_on rem p m (suc i) (omega arith), prev_suc i (length p.corners)) refl

untouched_on : (rem : ℕ) (p : Polygon) → untouched rem p ≡ sides_on rem p (get_or p.corners (length p.corners - 1) 0) p.corners
unfolding untouched over prev
untouched_on rem p = run_on rem p (length p.corners - 0) 0 (omega arith)

-- ---- their sum_of
module _ (rem : ℕ) (g : ℕ → ℕ → ℤ) (from : (b : ℕ) → g rem b ≡ pos 0) (to : (a : ℕ) → g a rem ≡ pos 0) where
  side_sum : (p : Polygon) (a b : ℕ) → sum_of (λ (s : Side). g s.start s.end) (untouched_side rem p a b) ≡ g a b
  unfolding untouched_side sum_of
  side_sum p a b = go (eqb a rem) (eqb b rem) refl refl
    where
      go : (x y : Bool) → eqb a rem ≡ x → eqb b rem ≡ y → sum_of (λ (s : Side). g s.start s.end) (cond (x || y) [] (record { start = a; end = b; region = p.region; code = p.code } ∷ [])) ≡ g a b
      go true y e f = sym (ap (λ (n : ℕ). g n b) (eqb-true a rem e) ∙ from b)
      go false true e f = sym (ap (g a) (eqb-true b rem f) ∙ to a)
      go false false e f = +ℤ_idr (g a b)

  sides_sum : (p : Polygon) (a : ℕ) (l : List ℕ) → sum_of (λ (s : Side). g s.start s.end) (sides_on rem p a l) ≡ path g a l
  unfolding sides_on path sum_of
  sides_sum p a [] = refl
  sides_sum p a (b ∷ l) = sum_append (λ (s : Side). g s.start s.end) (untouched_side rem p a b) (sides_on rem p b l) ∙ ap₂ ◌+ℤ◌ (side_sum p a b) (sides_sum p b l)

area_path_on : (pl : ℕ → Point) (rem : ℕ) (cs : List ℕ) → 0 < length cs → path (seen (pl rem) pl) (get_or cs (length cs - 1) 0) cs ≡ area (map pl cs)
unfolding seen
area_path_on pl rem cs h = go (take (length cs - 1) cs) (get_or cs (length cs - 1) 0) (last_split cs 0 h)
  where
    go : (l : List ℕ) (q : ℕ) → cs ≡ l ++ (q ∷ []) → path (λ a b. D (pl rem) (pl a) (pl b)) q cs ≡ area (map pl cs)
    go l q e = rw (e, map_append pl l (q ∷ [])) (sym (path_map (D (pl rem)) pl q (l ++ (q ∷ []))) ∙ ap (path (D (pl rem)) (pl q)) (map_append pl l (q ∷ [])) ∙ sym (area_round (pl rem) (map pl l) (pl q)))

-- a polygon's untouched sides, as seen from the vertex, have its area
pub area_untouched : (pl : ℕ → Point) (rem : ℕ) (p : Polygon) → 0 < length p.corners
    → sum_of (λ (s : Side). seen (pl rem) pl s.start s.end) (untouched rem p) ≡ area (map pl p.corners)
unfolding seen
area_untouched pl rem p h =
    rw (untouched_on rem p) (sides_sum rem (seen (pl rem) pl) (λ b. D-start (pl rem) (pl b)) (λ a. D-end (pl rem) (pl a)) p (get_or p.corners (length p.corners - 1) 0) p.corners
    ∙ area_path_on pl rem p.corners h)

-- ---- their count
abbrev one : Bool → ℕ
one b = cond b 1 0

-- how often the vertex follows itself
twice : ℕ → ℕ → List ℕ → ℕ
twice rem a [] = 0
twice rem a (b ∷ l) = one (eqb a rem && eqb b rem) + twice rem b l

last_on : ℕ → List ℕ → ℕ
last_on a [] = a
last_on a (b ∷ l) = last_on b l

side_length : (rem : ℕ) (p : Polygon) (a b : ℕ) → length (untouched_side rem p a b) + (one (eqb a rem) + one (eqb b rem)) ≡ 1 + one (eqb a rem && eqb b rem)
unfolding untouched_side
side_length rem p a b = go (eqb a rem) (eqb b rem)
  where
    go : (x y : Bool) → length {A = Side} (cond (x || y) [] (record { start = a; end = b; region = p.region; code = p.code } ∷ [])) + (one x + one y) ≡ 1 + one (x && y)
    go true true = refl
    go true false = refl
    go false true = refl
    go false false = refl

sides_length : (rem : ℕ) (p : Polygon) (a : ℕ) (l : List ℕ)
    → length (sides_on rem p a l) + (one (eqb a rem) + count rem l + count rem l) ≡ length l + one (eqb (last_on a l) rem) + twice rem a l
unfolding sides_on count twice last_on
sides_length rem p a [] = omega arith
sides_length rem p a (b ∷ l) = omega (arith, length-append (untouched_side rem p a b) (sides_on rem p b l), side_length rem p a b, sides_length rem p b l)

and_least : (x y : Bool) → (one (x && y) ≤ one x) × (one (x && y) ≤ one y)
and_least true true = omega arith
and_least true false = omega arith
and_least false true = omega arith
and_least false false = omega arith

twice_none : (rem a : ℕ) (l : List ℕ) → count rem l ≡ 0 → twice rem a l ≡ 0
unfolding twice count
twice_none rem a [] h = refl
twice_none rem a (b ∷ l) h = omega (arith, and_least (eqb a rem) (eqb b rem), twice_none rem b l (omega arith))

twice_one : (rem a : ℕ) (l : List ℕ) → one (eqb a rem) ≡ 0 → count rem l ≤ 1 → twice rem a l ≡ 0
unfolding twice count
twice_one rem a [] e h = refl
twice_one rem a (b ∷ l) e h = ⊎_elim
    (λ (k : 0 < one (eqb b rem)). omega (arith, and_least (eqb a rem) (eqb b rem), twice_none rem b l (omega arith)))
    (λ (k : one (eqb b rem) ≤ 0). omega (arith, and_least (eqb a rem) (eqb b rem), twice_one rem b l (omega arith) (omega arith)))
    (lt_or_le 0 (one (eqb b rem)))

last_counted : (rem c : ℕ) (l : List ℕ) → one (eqb (last_on c l) rem) ≤ count rem (c ∷ l)
unfolding last_on count
last_counted rem c [] = omega arith
last_counted rem c (d ∷ l) = omega (arith, last_counted rem d l)

twice_ring : (rem b : ℕ) (l : List ℕ) → 1 ≤ length l → count rem (b ∷ l) ≤ 1 → twice rem (last_on b l) (b ∷ l) ≡ 0
unfolding twice count last_on
twice_ring rem b [] h k = absurd (omega arith)
twice_ring rem b (c ∷ l) h k = ⊎_elim
    (λ (q : 0 < one (eqb b rem)). omega (arith, and_least (eqb (last_on c l) rem) (eqb b rem), last_counted rem c l, twice_none rem b (c ∷ l) (omega arith)))
    (λ (q : one (eqb b rem) ≤ 0). omega (arith, and_least (eqb (last_on c l) rem) (eqb b rem), twice_one rem b (c ∷ l) (omega arith) (omega arith)))
    (lt_or_le 0 (one (eqb b rem)))

last_get : (b : ℕ) (l : List ℕ) → get_or (b ∷ l) (length l) 0 ≡ last_on b l
unfolding last_on
last_get b [] = refl
last_get b (c ∷ l) = last_get c l

ring_length : (rem : ℕ) (p : Polygon) (cs : List ℕ) → 2 ≤ length cs → count rem cs ≡ 1 → length (sides_on rem p (get_or cs (length cs - 1) 0) cs) + 2 ≡ length cs
unfolding last_on
ring_length rem p [] h k = absurd (omega arith)
ring_length rem p (b ∷ l) h k =
    let e : length (b ∷ l) - 1 ≡ length l = omega arith in
    rw (e, last_get b l) (omega (arith, sides_length rem p (last_on b l) (b ∷ l), twice_ring rem b l (omega arith) (omega arith)))

-- a polygon that holds the vertex once has two untouched sides fewer than corners
pub length_untouched : (rem : ℕ) (p : Polygon) → 2 ≤ length p.corners → holds rem p ≡ 1 → length (untouched rem p) + 2 ≡ length p.corners
unfolding holds
length_untouched rem p h k = rw (untouched_on rem p) (ring_length rem p p.corners h k)

-- ---- their ends are corners other than the vertex
side_clear : (rem n : ℕ) (p : Polygon) (a b : ℕ) → a < n → b < n → All (ClearSide rem n) (untouched_side rem p a b)
unfolding untouched_side
side_clear rem n p a b h k = go (eqb a rem) (eqb b rem) refl refl
  where
    go : (x y : Bool) → eqb a rem ≡ x → eqb b rem ≡ y → All (ClearSide rem n) (cond (x || y) [] (record { start = a; end = b; region = p.region; code = p.code } ∷ []))
    go true y e f = none
    go false true e f = none
    go false false e f = more (record { starts = record { other = eqb-false a rem e; inside = h }; ends = record { other = eqb-false b rem f; inside = k } }) none

sides_clear : (rem n : ℕ) (p : Polygon) (a : ℕ) {l : List ℕ} → a < n → All (λ c. c < n) l → All (ClearSide rem n) (sides_on rem p a l)
unfolding sides_on
sides_clear rem n p a h none = none
sides_clear rem n p a h (more {a = b} k r) = all_append (side_clear rem n p a b h k) (sides_clear rem n p b k r)

pub clear_untouched : (rem n : ℕ) (p : Polygon) → 0 < length p.corners → All (λ c. c < n) p.corners → All (ClearSide rem n) (untouched rem p)
clear_untouched rem n p h a = rw (untouched_on rem p) (sides_clear rem n p (get_or p.corners (length p.corners - 1) 0) (all_at a (length p.corners - 1) 0 (omega arith)) a)

-- ---- the polygons that go: of those in ps some have gone, in this order, and gave their sides behind out
pub take_swap : {A : Type 0} (d : A) (l : List A) (i : ℕ) → i < length l → take i (swap_remove d l i) ≡ take i l
unfolding swap_remove
take_swap d l i h =
    take-take i (length l - 1) (set l i (get_or l (length l - 1) d)) (omega arith)
    ∙ take-set-le i l i (get_or l (length l - 1) d) (omega arith)

-- f polygons are left to look at, and those before them don't hold the vertex
pub take_out : (rem f : ℕ) (s : TakingOut) → s.at + f ≡ length s.polygons → All (λ p. holds rem p ≡ 0) (take s.at s.polygons)
    → TookOut rem s.polygons s.sides (times (take_one rem) f s)
unfolding times take_one gather
take_out rem zero s e a = record {
  gone = [];
  perm = Permᴰ.refl s.polygons;
  sides = sym (append-nil s.sides);
  held = none;
  free = rw (take_all s.at s.polygons (omega arith)) at a;
}
take_out rem (suc f) s e a =
    let ps = s.polygons in
    let p = polygon_at ps s.at in
    let less : TakingOut = record { polygons = swap_remove no_polygon ps s.at; sides = s.sides ++ untouched rem p; at = s.at } in
    let next : TakingOut = record { polygons = ps; sides = s.sides; at = s.at + 1 } in
    (elim (ltb 0 (holds rem p)) as (λ (t : Bool). ltb 0 (holds rem p) ≡ t → TookOut rem ps s.sides (times (take_one rem) f (elim t [ true ↦ less | false ↦ next ]))) [
      | true ↦ λ q.
          let t = take_out rem f less (omega (arith, swap_length no_polygon ps s.at)) (rw (take_swap no_polygon ps s.at (omega arith)) a) in
          record {
            gone = p ∷ t.gone;
            perm = Permᴰ.trans (swap_perm no_polygon ps s.at (omega arith)) (Permᴰ.cons refl t.perm);
            sides = t.sides ∙ append_assoc s.sides (untouched rem p) (gather (untouched rem) t.gone);
            held = more (ltb-true 0 (holds rem p) q) t.held;
            free = t.free;
          }
      | false ↦ λ q. take_out rem f next (omega arith)
          (rw (add-one s.at, take-suc ps s.at no_polygon (omega arith)) (all_append a (more (omega (arith, ltb-false 0 (holds rem p) q)) none)))
    ]) refl

pub took_out : (rem : ℕ) (ps : List Polygon) → TookOut rem ps [] (taken_out rem ps)
unfolding taken_out
took_out rem ps = take_out rem (length ps) (record { polygons = ps; sides = []; at = 0 }) (omega arith) none

-- ---- the test that every polygon holds the vertex at most once
pub held_once_lem : (rem : ℕ) (ps : List Polygon) → held_once rem ps ≡ true → All (λ p. holds rem p ≤ 1) ps
unfolding held_once over
held_once_lem rem ps e = all_of_lem ps no_polygon (λ i h. leb-true (holds rem (polygon_at ps i)) 1 (run_all (λ i. leb (holds rem (polygon_at ps i)) 1) (length ps - 0) 0 e i (omega arith) (omega arith)))

-- ---- its neighbours: two in a polygon that holds it once, and none in the others

end_few : (rem a b : ℕ) → length (other_end rem a b) ≤ one (eqb a rem) + one (eqb b rem)
unfolding other_end
end_few rem a b = go (eqb a rem) (eqb b rem)
  where
    go : (x y : Bool) → length {A = ℕ} (cond x (b ∷ []) (cond y (a ∷ []) [])) ≤ one x + one y
    go true y = omega arith
    go false true = omega arith
    go false false = omega arith

count_on : (rem : ℕ) (cs : List ℕ) (i : ℕ) → i < length cs → count rem (drop i cs) ≡ one (eqb (get_or cs i 0) rem) + count rem (drop (i + 1) cs)
unfolding count
count_on rem cs i h = rw (drop-cons cs i 0 h, add-one i) refl

-- on the m sides from corner i on: each corner that is the vertex has two of them, but for the first and the last end
ends_few : (rem : ℕ) (cs : List ℕ) (m i : ℕ) → i + m ≡ length cs
    → length (run [] ◌++◌ (λ j. other_end rem (side_start cs j) (side_end cs j)) i m)
    ≤ one (eqb (get_or cs i 0) rem) + 2 * count rem (drop (i + 1) cs) + one (eqb (get_or cs 0 0) rem)
unfolding run
ends_few rem cs zero i e = omega arith
ends_few rem cs (suc m) i e = ⊎_elim
    (λ (h : i + 1 < length cs).
    let s : suc i ≡ i + 1 = omega arith in
    let c : count rem (drop (i + 1) cs) ≡ one (eqb (get_or cs (i + 1) 0) rem) + count rem (drop (i + 1 + 1) cs) = count_on rem cs (i + 1) h in
    rw (next_in i (length cs) h, s)
    (omega (
      arith,
      length-append (other_end rem (get_or cs i 0) (get_or cs (i + 1) 0)) (run [] ◌++◌ (λ j. other_end rem (side_start cs j) (side_end cs j)) (i + 1) m),
      end_few rem (get_or cs i 0) (get_or cs (i + 1) 0),
      ends_few rem cs m (i + 1) (omega arith),
    )))
    (λ (h : length cs ≤ i + 1).
    let z : m ≡ 0 = omega arith in
    rw (next_out i (length cs) h, z, append-nil (other_end rem (get_or cs i 0) (get_or cs 0 0))) (omega (arith, end_few rem (get_or cs i 0) (get_or cs 0 0))))
    (lt_or_le (i + 1) (length cs))

pub polygon_few : (rem : ℕ) (cs : List ℕ) → length (neighbours_in rem cs) ≤ 2 * count rem cs
unfolding neighbours_in over run count
polygon_few rem [] = omega arith
polygon_few rem (c ∷ cs) = omega (arith, ends_few rem (c ∷ cs) (length (c ∷ cs) - 0) 0 (omega arith))

-- a polygon that does not hold the vertex
pub not_held : (rem n : ℕ) {l : List ℕ} → count rem l ≡ 0 → All (λ c. c < n) l → All (Clear rem n) l
unfolding count
not_held rem n e none = none
not_held rem n e (more {a} h r) = more (record { other = λ (q : a ≡ rem). absurd (omega (arith, ap one (eq-eqb a rem q))); inside = h }) (not_held rem n (omega arith) r)
