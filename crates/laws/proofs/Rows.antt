-- Kept rows: R4's best pair, from the best pair of each polygon with one after it, and what a join leaves of these. Assumes nothing.
-- Key: `row_is`: what a row is; `best_rows`: the best over the rows is the best pair; `row_stays`: a row that a join doesn't make stale is a row of what the
-- join leaves.
use Rattle.std.specs.Prelude.{◌≡◌, Bool, ◌||◌, ◌⊎◌, List, ℕ, ◌+◌, ◌-◌, ◌≤◌, ◌<◌, eqb, set, Option, Some, None}
use Rattle.std.proofs.Math.Path.{refl, ap}
use Rattle.std.proofs.Common.{sym, ap₂, ◌∙◌, inl, inr, arith, length-set, get_or-take, get_or-set_other, lt-ltb, leb-false}
use Rattle.std.proofs.Math.Bool.{true, false}
use Rattle.std.proofs.Math.Logic.{⊎_elim}
use Rattle.std.proofs.Math.ListN.{length}
use Rattle.std.proofs.lemmas.Bool.{eqb-false}
use Rattle.ints.specs.Bools.{or_left, or_right, cond_ind}
use Rattle.mem.specs.Cases.{lt_or_le}
use Rattle.mem.specs.Loops.{each, each_cong}
use Rattle.rules.specs.Lists.{swap_remove}
use Rattle.rules.specs.Plane.{squared}
use Rattle.rules.specs.Mesh.{Polygon, no_polygon, polygon_at, side_start, side_end, place_of}
use Rattle.rules.specs.Merge.{fits, shared_side, may_join, no_pair, pair_at, merge_value, greater, best_of_row, best_pair, joined, join_pair}
use Rattle.rules.specs.declared.Vertex.{Vertex}
use Rattle.rules.specs.declared.Pair.{Pair}
use Rattle.laws.specs.Merge.{Joinable}
use Rattle.laws.proofs.Merge.{row_joinable}
use Rattle.laws.proofs.Fuel.{length_join}
use Rattle.laws.specs.Longest.{Never, First, Best, size}
use Rattle.laws.proofs.Longest.{add, each_greater, each_best, best_one, best_kept}
use Rattle.laws.specs.Rows.{row_of, is_moved, is_rival, is_reached, is_stale, After, Own, row_against, Still}

-- ---- the value of a pair

no_own : (p q : ℕ) → Own p q no_pair
no_own p q = record { first = λ h. absurd (omega arith); second = λ h. absurd (omega arith) }

-- the value, from its two tests
picked : List Vertex → List Polygon → ℕ → ℕ → Bool → Option (ℕ × ℕ) → Pair
picked vs ps p q t s = elim t [ true ↦ pair_at vs ps p q s | false ↦ no_pair ]

value_picked : (vs : List Vertex) (nvp : ℕ) (ps : List Polygon) (p q : ℕ) → merge_value vs nvp ps p q
    ≡ picked vs ps p q (fits nvp (polygon_at ps p).corners (polygon_at ps q).corners) (shared_side (polygon_at ps p).corners (polygon_at ps q).corners)
unfolding merge_value picked
value_picked vs nvp ps p q = refl

module _ (vs : List Vertex) (ps : List Polygon) (p q : ℕ) where
  pair_own : (s : Option (ℕ × ℕ)) → Own p q (pair_at vs ps p q s)
  unfolding pair_at
  pair_own None = no_own p q
  pair_own (Some (i, j)) =
      let a = (polygon_at ps p).corners in
      cond_ind (Own p q) (may_join vs a (polygon_at ps q).corners i j)
      {x = record { length = squared (place_of vs (side_start a i)) (place_of vs (side_end a i)); a = p; b = q; ea = i; eb = j }} {y = no_pair}
      (record { first = λ h. refl; second = λ h. refl }) (no_own p q)

  picked_own : (t : Bool) (s : Option (ℕ × ℕ)) → Own p q (picked vs ps p q t s)
  unfolding picked
  picked_own true s = pair_own s
  picked_own false s = no_own p q

value_own : (vs : List Vertex) (nvp : ℕ) (ps : List Polygon) (p q : ℕ) → Own p q (merge_value vs nvp ps p q)
value_own vs nvp ps p q = rw (value_picked vs nvp ps p q) (picked_own vs ps p q _ _)

module _ (vs : List Vertex) (nvp : ℕ) (ps qs : List Polygon) (p q : ℕ) (e : polygon_at qs p ≡ polygon_at ps p) (d : polygon_at qs q ≡ polygon_at ps q) where
  pair_same : (s : Option (ℕ × ℕ)) → pair_at vs qs p q s ≡ pair_at vs ps p q s
  unfolding pair_at
  pair_same None = refl
  pair_same (Some (i, j)) = rw (e, d)

  picked_same : (t : Bool) (s : Option (ℕ × ℕ)) → picked vs qs p q t s ≡ picked vs ps p q t s
  unfolding picked
  picked_same true s = pair_same s
  picked_same false s = refl

  -- it depends on the two polygons alone
  value_same : merge_value vs nvp qs p q ≡ merge_value vs nvp ps p q
  value_same =
      let a = (polygon_at ps p).corners in
      let b = (polygon_at ps q).corners in
      value_picked vs nvp qs p q
      ∙ ap₂ (λ (x y : Polygon). picked vs qs p q (fits nvp x.corners y.corners) (shared_side x.corners y.corners)) e d
      ∙ picked_same (fits nvp a b) (shared_side a b) ∙ sym (value_picked vs nvp ps p q)

-- ---- rows

module _ (vs : List Vertex) (nvp : ℕ) (ps : List Polygon) (p : ℕ) where
  row_each : row_of vs nvp ps p ≡ each (add (merge_value vs nvp ps p)) (p + 1) (length ps) no_pair
  unfolding row_of best_of_row add
  row_each = refl

  -- a row looked at from the best so far is the row, against the best so far
  row_greater : (s : Pair) → best_of_row vs nvp ps p s ≡ greater s (row_of vs nvp ps p)
  unfolding row_of best_of_row add
  row_greater s = each_greater (merge_value vs nvp ps p) (p + 1) (length ps) s

  row_best : p < length ps → Best (merge_value vs nvp ps p) (p + 1) (length ps) (row_of vs nvp ps p)
  row_best h = rw row_each (each_best (merge_value vs nvp ps p) (p + 1) (length ps) (omega arith))

  -- a row without a length is no pair; one with a length is a pair of p that can be joined
  pub record Row (m : Pair) : Type 0 where
    pub none : m.length ≡ 0 → m ≡ no_pair
    pub first : 0 < m.length → m.a ≡ p
    pub joinable : 0 < m.length → Joinable nvp ps m

  pub row_is : p < length ps → Row (row_of vs nvp ps p)
  unfolding row_of
  row_is h =
      let m : Pair = row_of vs nvp ps p in
      ⊎_elim
      (λ (z : Never (merge_value vs nvp ps p) (p + 1) (length ps) (row_of vs nvp ps p)).
      let l : m.length ≡ 0 = ap size z.is in
      record { none = λ e. z.is; first = λ (k : 0 < m.length). absurd (omega arith); joinable = row_joinable vs nvp ps p h })
      (λ (r : First (merge_value vs nvp ps p) (p + 1) (length ps) (row_of vs nvp ps p)). record {
        none = λ (e : m.length ≡ 0). absurd (omega (arith, r.some));
        first = λ k. ap (λ (x : Pair). x.a) r.is ∙ (value_own vs nvp ps p r.at).first (rw r.is at r.some);
        joinable = row_joinable vs nvp ps p h;
      })
      (row_best h)

-- the best over the rows, from the first on, is the best pair
pub best_rows : (vs : List Vertex) (nvp : ℕ) (ps : List Polygon) → best_pair vs nvp ps ≡ each (row_against vs nvp ps) 0 (length ps) no_pair
unfolding best_pair row_against
best_rows vs nvp ps = each_cong (best_of_row vs nvp ps) (row_against vs nvp ps) (row_greater vs nvp ps) 0 (length ps) no_pair

-- ---- what a join leaves

pub after_join : (nvp : ℕ) (ps : List Polygon) (m : Pair) → Joinable nvp ps m → After ps (join_pair ps m) m.a m.b
unfolding join_pair swap_remove
after_join nvp ps m j = record {
  size = omega (arith, length_join ps m, j.below);
  same = λ q h x y.
      let J = joined (polygon_at ps m.a) (polygon_at ps m.b) m.ea m.eb in
      let l = set ps m.a J in
      let k : q < length l - 1 = omega (arith, length_join ps m, length-set ps m.a J) in
      get_or-take (length l - 1) (set l m.b (polygon_at l (length l - 1))) q no_polygon k
      ∙ get_or-set_other l m.b q (polygon_at l (length l - 1)) no_polygon y ∙ get_or-set_other ps m.a q J no_polygon x;
}

-- a pair that does not reach a row
short_of : (l : ℕ) (m : Pair) → is_rival l m ≡ false → (m.length ≡ 0) ⊎ (m.length < l)
unfolding is_rival
short_of l m e =
    ⊎_elim
    (λ (a : 0 < m.length). inr (leb-false l m.length (rw (lt-ltb 0 m.length a) at e)))
    (λ (a : m.length ≤ 0). inl (omega arith))
    (lt_or_le 0 m.length)

not_reached : (vs : List Vertex) (nvp : ℕ) (ps : List Polygon) (r q l : ℕ) → is_reached vs nvp ps r q l ≡ false → r + 1 ≤ q → q < length ps
    → ((merge_value vs nvp ps r q).length ≡ 0) ⊎ ((merge_value vs nvp ps r q).length < l)
unfolding is_reached
not_reached vs nvp ps r q l e h k = short_of l (merge_value vs nvp ps r q) (rw (lt-ltb r q (omega arith), lt-ltb q (length ps) k) at e)

pub still : (r q a b n : ℕ) → is_moved r q a b n ≡ false → Still r q a b n
unfolding is_moved
still r q a b n e =
    let x = or_left (eqb r a || eqb r b) (eqb q a || (eqb q b || eqb q n)) e in
    let y = or_right (eqb r a || eqb r b) (eqb q a || (eqb q b || eqb q n)) e in
    let z = or_right (eqb q a) (eqb q b || eqb q n) y in
    record {
      r_a = eqb-false r a (or_left (eqb r a) (eqb r b) x);
      r_b = eqb-false r b (or_right (eqb r a) (eqb r b) x);
      q_a = eqb-false q a (or_left (eqb q a) (eqb q b || eqb q n) y);
      q_b = eqb-false q b (or_left (eqb q b) (eqb q n) z);
      q_n = eqb-false q n (or_right (eqb q b) (eqb q n) z);
    }

-- row r is not stale: it is the row of what the join leaves, and its polygon is as it was
module _ (vs : List Vertex) (nvp : ℕ) (ps qs : List Polygon) (a b r : ℕ) (t : After ps qs a b) (h : r < length qs)
    (e : is_stale vs nvp qs a b r (row_of vs nvp ps r).length (row_of vs nvp ps r).b ≡ false) where
  old : Pair
  old = row_of vs nvp ps r

  unmoved : Still r old.b a b (length qs)
  unfolding old is_stale
  unmoved =
      let u = is_reached vs nvp qs r a old.length || is_reached vs nvp qs r b old.length in
      still r old.b a b (length qs) (or_left (is_moved r old.b a b (length qs)) u e)

  pub polygon_stays : polygon_at qs r ≡ polygon_at ps r
  polygon_stays = t.same r h unmoved.r_a unmoved.r_b

  pub row_stays : row_of vs nvp ps r ≡ row_of vs nvp qs r
  unfolding old is_stale
  row_stays =
      let u = is_reached vs nvp qs r a old.length in
      let v = is_reached vs nvp qs r b old.length in
      let w = or_right (is_moved r old.b a b (length qs)) (u || v) e in
      let before : Best (merge_value vs nvp ps r) (r + 1) (length qs + 1) old = rw t.size at (row_best vs nvp ps r (omega (arith, t.size))) in
      let now : Best (merge_value vs nvp qs r) (r + 1) (length qs) old =
      best_kept (merge_value vs nvp ps r) (merge_value vs nvp qs r) (r + 1) (length qs) a b old (λ j. (value_own vs nvp ps r j).second)
      (λ j i k x y. value_same vs nvp ps qs r j polygon_stays (t.same j k x y))
      (not_reached vs nvp qs r a old.length (or_left u v w)) (not_reached vs nvp qs r b old.length (or_right u v w))
      unmoved.q_a unmoved.q_b unmoved.q_n before in
      best_one (merge_value vs nvp qs r) (r + 1) (length qs) old (row_of vs nvp qs r) now (row_best vs nvp qs r h)
