-- Request 12, on the plane: what is left of a ring of places when the one after i is lost, or two; and that the area stays where a rule applies.
-- Assumes nothing.
-- Key: `then_here`, `then_next`: where i and what followed the lost one stand then; `area_doubled`, `area_spike`.
use Rattle.std.specs.Prelude.{ℕ, ◌+◌, ◌-◌, ◌≤◌, ◌<◌, ◌≡◌, refl, true, List, eqb, pos}
use native.Mathlib.Omega.{arith}
use Rattle.std.proofs.Math.Path.{sym, ap}
use Rattle.std.proofs.Common.{◌∙◌, ap₂, eqb-true, lt-ltb, le-ltb}
use Rattle.std.proofs.Math.Logic.{⊎_elim}
use Rattle.std.proofs.Math.ListN.{length, get_or}
use Rattle.std.proofs.Math.IntN.{+ℤ_idl}
use Rattle.ints.specs.Bools.{and_left, and_right}
use Rattle.mem.specs.Cases.{lt_or_le}
use Rattle.rules.specs.declared.Point.{Point}
use Rattle.rules.specs.Lists.{next}
use Rattle.rules.specs.Plane.{D, area, origin, vequal}
use Rattle.rules.specs.Mend.{is_doubled, is_spike, place_then}
use Rattle.laws.proofs.Lists.{without_below, without_above, length_without}
use Rattle.laws.proofs.Sides.{D-start, D-end, area_few}
use Rattle.laws.proofs.Ring.{next_in, next_out, next_below, area_without}
use Rattle.laws.specs.MendLoss.{lost_one, lost_two}

-- ---- what is left

pub then_in : (i n : ℕ) → i + 1 < n → place_then i n ≡ i
unfolding place_then
then_in i n k = rw (lt-ltb (i + 1) n k) refl

pub then_out : (i n : ℕ) → n ≤ i + 1 → place_then i n ≡ i - 1
unfolding place_then
then_out i n k = rw (le-ltb (i + 1) n k) refl

pub then_below : (i n : ℕ) → 2 ≤ n → i < n → place_then i n < n - 1
then_below i n t h = ⊎_elim (λ (k : i + 1 < n). rw (then_in i n k) (omega arith)) (λ (k : n ≤ i + 1). rw (then_out i n k) (omega arith)) (lt_or_le (i + 1) n)

pub length_one : {A : Type 0} (l : List A) (i : ℕ) → 0 < length l → length (lost_one l i) ≡ length l - 1
unfolding lost_one
length_one l i h = length_without l (next i (length l)) (next_below i (length l) h)

module _ {A : Type 0} (l : List A) (i : ℕ) (d : A) (n : 2 ≤ length l) (h : i < length l) where
  pub then_here : get_or (lost_one l i) (place_then i (length l)) d ≡ get_or l i d
  unfolding lost_one
  then_here = ⊎_elim
      (λ (k : i + 1 < length l). rw (then_in i (length l) k, next_in i (length l) k) (without_below l (i + 1) i d k (omega arith)))
      (λ (k : length l ≤ i + 1). let e : i - 1 + 1 ≡ i = omega arith in
      rw (then_out i (length l) k, next_out i (length l) k) (without_above l 0 (i - 1) d (omega arith) (omega arith) ∙ ap (λ (j : ℕ). get_or l j d) e))
      (lt_or_le (i + 1) (length l))

  pub then_next : get_or (lost_one l i) (next (place_then i (length l)) (length (lost_one l i))) d ≡ get_or l (next (next i (length l)) (length l)) d
  unfolding lost_one
  then_next = let m = length l in rw (length_one l i (omega arith)) (⊎_elim
      (λ (k : i + 1 < m). rw (then_in i m k, next_in i m k) (⊎_elim
      (λ (j : i + 1 + 1 < m). rw (next_in i (m - 1) (omega arith), next_in (i + 1) m j) (without_above l (i + 1) (i + 1) d k (omega arith)))
      (λ (j : m ≤ i + 1 + 1). rw (next_out i (m - 1) (omega arith), next_out (i + 1) m j) (without_below l (i + 1) 0 d k (omega arith)))
      (lt_or_le (i + 1 + 1) m)))
      (λ (k : m ≤ i + 1). rw (then_out i m k, next_out i m k, next_out (i - 1) (m - 1) (omega arith), next_in 0 m (omega arith))
      (without_above l 0 0 d (omega arith) (omega arith)))
      (lt_or_le (i + 1) m))

-- ---- the area
pub same_place : (a b : Point) → vequal a b ≡ true → a ≡ b
unfolding vequal
same_place a b e = ap₂ (λ (x z : ℕ). record { x = x; z = z })
    (eqb-true a.x b.x (and_left (eqb a.x b.x) (eqb a.z b.z) e))
    (eqb-true a.z b.z (and_right (eqb a.x b.x) (eqb a.z b.z) e))

module _ (l : List Point) (i : ℕ) (h : i < length l) where
  here : Point
  here = get_or l i origin

  after : Point
  after = get_or l (next i (length l)) origin

  second : Point
  second = get_or l (next (next i (length l)) (length l)) origin

  -- where no ground lies between three points, the middle one can go
  flat : D here after second ≡ pos 0 → area (lost_one l i) ≡ area l
  unfolding lost_one here after second
  flat e = ⊎_elim
      (λ (k : length l < 3). area_few (lost_one l i) (omega (arith, length_one l i (omega arith))) ∙ sym (area_few l k))
      (λ (k : 3 ≤ length l). sym (area_without l i origin k h ∙ rw e (+ℤ_idl (area (lost_one l i)))))
      (lt_or_le (length l) 3)

  pub area_doubled : is_doubled l i ≡ true → area (lost_one l i) ≡ area l
  unfolding is_doubled here after
  area_doubled e = flat (rw (← same_place here after e) (D-start here second))

-- its tip goes, and what is left is doubled
pub area_spike : (l : List Point) (i : ℕ) → 2 ≤ length l → i < length l → is_spike l i ≡ true → area (lost_two l i) ≡ area l
unfolding is_spike is_doubled lost_two here second
area_spike l i n h e =
    area_doubled (lost_one l i) (place_then i (length l)) (omega (arith, length_one l i (omega arith), then_below i (length l) n h))
    (rw (then_here l i origin n h, then_next l i origin n h) e)
    ∙ flat l i h (rw (← same_place (here l i h) (second l i h) e) (D-end (here l i h) (after l i h)))
