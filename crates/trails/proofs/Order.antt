-- The order in which polygons give their sides. Only place i of the list that R5 looks at is ever written, so each place above i holds the polygon of its own
-- number: three numbers, i, the count m, and the number k of the polygon at i, say what stands where. Assumes nothing.
use mathlib.Core.Path.{◌≡◌, refl, sym, ap, ◌∙◌}
use mathlib.Core.Bool.{Bool, true, false}
use mathlib.Core.Logic.{◌≢◌}
use mathlib.Core.List.{List, [], ◌++◌}
use Prim.Native.Nat.{ℕ, ◌+◌, ◌-◌, ◌*◌, ◌≤◌, ◌<◌}
use native.Mathlib.Omega.{arith}
use native.Mathlib.Nat.{le_refl}
use lib.Dec.{ltb}
use lib.ListN.{length, get_or, set, length-append}
use lib.Seq.{get_or-take, get_or-set_same, get_or-set_other}
use Rattle.mem.specs.Slice.{splice}
use Rattle.mem.specs.Tab.{blocks_after}
use Rattle.mem.specs.Loops.{times, times_ind}
use Rattle.mem.specs.Packed.{every_at}
use Rattle.rules.specs.Lists.{swap_remove}
use Rattle.rules.specs.Mesh.{Polygon, no_polygon, polygon_at}
use Rattle.rules.specs.Removal.{holds, untouched, TakingOut, take_one, taken_out, sides_left}
use Rattle.rules.specs.Fuel.{taking}
use Rattle.laws.proofs.Lists.{swap_length}
use Rattle.laws.proofs.Removal.{length_sides}
use Rattle.laws.proofs.Fuel.{taking_turns, taken_out_lem}
use Rattle.records.specs.Layout.{polygon_size, polygon_in, polygons_at, Small, most_corners, side_size, side_records}
use Rattle.records.specs.Values.{polygon_of, Loaded}
use Rattle.records.specs.Polygons.{length_polygons, loaded_of}
use Rattle.records.specs.Fixed.{side_fixed, fixed_are}
use Rattle.records.specs.declared.polygon.Poly.{Poly}
use Rattle.trails.specs.Sides.{dropped_words, Laid, CollectReady, Collected}
use Rattle.trails.proofs.Given.{laid_none, laid_more}

-- ---- a list whose element at i goes: the last stands at i, and the others where they stood
module _ {A : Type 0} (d : A) (l : List A) (i : ℕ) where
  swap_here : i < length l - 1 → get_or (swap_remove d l i) i d ≡ get_or l (length l - 1) d
  unfolding swap_remove
  swap_here h = get_or-take (length l - 1) (set l i (get_or l (length l - 1) d)) i d h ∙ get_or-set_same l i (get_or l (length l - 1) d) d (omega arith)

  swap_other : (j : ℕ) → j < length l - 1 → j ≢ i → get_or (swap_remove d l i) j d ≡ get_or l j d
  unfolding swap_remove
  swap_other j h n = get_or-take (length l - 1) (set l i (get_or l (length l - 1) d)) j d h ∙ get_or-set_other l i j (get_or l (length l - 1) d) d n

-- ---- a polygon is looked at
module _ (rem : ℕ) (s : TakingOut) where
  take_held : ltb 0 (holds rem (polygon_at s.polygons s.at)) ≡ true
      → take_one rem s
      ≡ record { polygons = swap_remove no_polygon s.polygons s.at; sides = s.sides ++ untouched rem (polygon_at s.polygons s.at); at = s.at }
  unfolding take_one
  take_held e = rw (e, take_one) refl

  take_free : ltb 0 (holds rem (polygon_at s.polygons s.at)) ≡ false
      → take_one rem s ≡ record { polygons = s.polygons; sides = s.sides; at = s.at + 1 }
  unfolding take_one
  take_free e = rw (e, take_one) refl

  -- sides are only added
  one_grows : length s.sides ≤ length (take_one rem s).sides
  unfolding take_one
  one_grows =
      let p = polygon_at s.polygons s.at in
      let less : TakingOut = record { polygons = swap_remove no_polygon s.polygons s.at; sides = s.sides ++ untouched rem p; at = s.at } in
      let next : TakingOut = record { polygons = s.polygons; sides = s.sides; at = s.at + 1 } in
      elim (ltb 0 (holds rem p)) as (λ t. length s.sides ≤ length (elim t as (λ b. TakingOut) [ true ↦ less | false ↦ next ]).sides) [
        | true ↦ omega (arith, length-append s.sides (untouched rem p))
        | false ↦ le_refl (length s.sides)
      ]

grows : (rem f : ℕ) (s : TakingOut) → length s.sides ≤ length (times (take_one rem) f s).sides
grows rem f s =
    times_ind (take_one rem) (λ (t : TakingOut). length s.sides ≤ length t.sides)
    (λ t (h : length s.sides ≤ length t.sides). omega (arith, one_grows rem t)) f s (le_refl (length s.sides))

-- ---- m of the polygons ps are left, polygon k stands at place i of them, and n sides are written at q: R5 from there on gives the whole
pub record Collecting (rem : ℕ) (ps : List Polygon) (v w : List ℕ) (q n m i k : ℕ) : Type 0 where
  pub state : TakingOut
  pub same : taken_out rem ps ≡ taking rem state
  pub place : state.at ≡ i
  pub many : length state.polygons ≡ m
  pub here : i < m → polygon_at state.polygons i ≡ polygon_at ps k
  pub above : (j : ℕ) → i < j → j < m → polygon_at state.polygons j ≡ polygon_at ps j
  pub within : i ≤ m
  pub fewer : m ≤ length ps
  pub number : i < m → k < length ps
  pub laid : Laid rem state.sides v w q n
  pub long : length w ≡ length v
  pub room : q + length (taken_out rem ps).sides * side_size ≤ length v

pub collecting_none : (rem : ℕ) (ps : List Polygon) (v : List ℕ) (q m : ℕ) → length ps ≡ m → q + length (taken_out rem ps).sides * side_size ≤ length v
    → Collecting rem ps v v q 0 m 0 0
collecting_none rem ps v q m e r = record {
  state = record { polygons = ps; sides = []; at = 0 };
  same = taken_out_lem rem ps;
  place = refl;
  many = e;
  here = λ h. refl;
  above = λ j a b. refl;
  within = omega arith;
  fewer = omega arith;
  number = λ h. omega arith;
  laid = laid_none rem q v;
  long = refl;
  room = r;
}

module _ {rem : ℕ} {ps : List Polygon} {v w : List ℕ} {q n m i k : ℕ} (c : Collecting rem ps v w q n m i k) (h : i < m) where
  looked : taken_out rem ps ≡ taking rem (take_one rem c.state)
  looked = c.same ∙ (taking_turns rem c.state).look (omega (arith, c.place, c.many))

  -- the polygon looked at is number k
  is_k : polygon_at c.state.polygons c.state.at ≡ polygon_at ps k
  is_k = ap (polygon_at c.state.polygons) c.place ∙ c.here h

  -- it holds the vertex, and p is its value
  module _ {p : Poly} (l : Loaded (polygon_at ps k) p) (e : ltb 0 (holds rem (polygon_at ps k)) ≡ true) where
    is_p : polygon_at c.state.polygons c.state.at ≡ polygon_of p
    is_p = is_k ∙ sym (loaded_of l)

    after : TakingOut
    after = record { polygons = swap_remove no_polygon c.state.polygons i; sides = c.state.sides ++ untouched rem (polygon_of p); at = i }

    to_after : take_one rem c.state ≡ after
    unfolding after
    to_after = take_held rem c.state (rw is_k e) ∙ rw (is_p, c.place) refl

    taken : taken_out rem ps ≡ taking rem after
    taken = looked ∙ ap (λ (t : TakingOut). taking rem t) to_after

    pub collecting_room : q + n * side_size + length (untouched rem (polygon_of p)) * side_size ≤ length w
    unfolding after
    collecting_room = omega (
      arith,
      ap (λ (t : TakingOut). length t.sides) taken,
      grows rem (length after.polygons - i) after,
      length-append c.state.sides (untouched rem (polygon_of p)),
      c.laid.count,
      c.long,
      c.room,
    )

    pub collecting_more : {u : List ℕ} {r : ℕ} → Laid rem (untouched rem (polygon_of p)) w u (q + n * side_size) r → length u ≡ length w
        → Collecting rem ps v u q (n + r) (m - 1) i (m - 1)
    unfolding after
    collecting_more d z =
        let b = c.state.polygons in
        let f : length (swap_remove no_polygon b i) ≡ m - 1 = swap_length no_polygon b i ∙ ap (λ (j : ℕ). j - 1) c.many in
        let g = c.many in
        let last : length b - 1 ≡ m - 1 = omega arith in
        record {
          state = after;
          same = taken;
          place = refl;
          many = f;
          here = λ (a : i < m - 1). swap_here no_polygon b i (omega arith) ∙ rw last (c.above (m - 1) a (omega arith));
          above = λ (j : ℕ) (a : i < j) (y : j < m - 1). swap_other no_polygon b i j (omega arith) (λ (t : j ≡ i). omega arith) ∙ c.above j a (omega arith);
          within = omega arith;
          fewer = omega (arith, c.fewer);
          number = λ (a : i < m - 1). omega (arith, c.fewer);
          laid = laid_more c.laid d;
          long = z ∙ c.long;
          room = c.room;
        }

  pub collecting_past : ltb 0 (holds rem (polygon_at ps k)) ≡ false → Collecting rem ps v w q n m (i + 1) (i + 1)
  collecting_past e =
      let next : TakingOut = record { polygons = c.state.polygons; sides = c.state.sides; at = i + 1 } in
      let to : take_one rem c.state ≡ next = take_free rem c.state (rw is_k e) ∙ rw c.place refl in
      record {
        state = next;
        same = looked ∙ ap (λ (t : TakingOut). taking rem t) to;
        place = refl;
        many = c.many;
        here = λ a. c.above (i + 1) (omega arith) a;
        above = λ (j : ℕ) (a : i + 1 < j) b. c.above j (omega arith) b;
        within = omega arith;
        fewer = c.fewer;
        number = λ (a : i + 1 < m). omega (arith, c.fewer);
        laid = c.laid;
        long = c.long;
        room = c.room;
      }

-- ---- the polygons of the buffer
module _ {w : List ℕ} {o np q rem : ℕ} (r : CollectReady w o np q rem) where
  pub collecting_begin : Collecting rem (polygons_at w o np) w w q 0 np 0 0
  collecting_begin =
      let e = length_sides rem (polygons_at w o np) in
      collecting_none rem (polygons_at w o np) w q np (length_polygons w o np) (rw (← e) r.room)

  module _ {u : List ℕ} {n m i k : ℕ} (c : Collecting rem (polygons_at w o np) w u q n m i k) where
    -- they are as they were
    same_polygons : polygons_at u o np ≡ polygons_at w o np
    unfolding polygons_at
    same_polygons =
        ap (λ (x : List ℕ). polygons_at x o np) c.laid.is
        ∙ blocks_after polygon_in w q o polygon_size np (dropped_words rem c.state.sides) r.behind

    pub fits_now : o + np * polygon_size ≤ length u
    fits_now = omega (arith, r.behind, c.room, c.long)

    pub few_now : m ≤ np
    few_now = omega (arith, c.fewer, length_polygons w o np)

    pub number_now : i < m → k < np
    number_now h = omega (arith, c.number h, length_polygons w o np)

    pub small_now : (j : ℕ) → length (polygon_at (polygons_at u o np) j).corners ≤ most_corners
    small_now j = rw same_polygons (every_at Small no_polygon (polygons_at w o np) r.small j)

    pub held_now : {t : Bool} → t ≡ ltb 0 (holds rem (polygon_at (polygons_at u o np) k)) → ltb 0 (holds rem (polygon_at (polygons_at w o np) k)) ≡ t
    held_now e = sym (rw same_polygons at e)

    pub loaded_now : {p : Poly} → Loaded (polygon_at (polygons_at u o np) k) p → Loaded (polygon_at (polygons_at w o np) k) p
    loaded_now l = rw same_polygons at l

    pub collecting_end : m ≤ i → Collected w u o np q rem n
    unfolding sides_left dropped_words
    collecting_end h =
        let ps = polygons_at w o np in
        let e : taken_out rem ps ≡ c.state = c.same ∙ (taking_turns rem c.state).end (omega (arith, c.place, c.many)) in
        let many : n ≡ length (sides_left rem ps) = c.laid.count ∙ ap (λ (t : TakingOut). length t.sides) (sym e) ∙ sym (length_sides rem ps) in
        let put : u ≡ splice w q (side_records (sides_left rem ps)) = c.laid.is ∙ ap (λ (t : TakingOut). splice w q (dropped_words rem t.sides)) (sym e) in
        record {
          count = many;
          is = put;
          sides = fixed_are side_fixed w q n (sides_left rem ps) put (sym many) (rw many r.room);
        }
