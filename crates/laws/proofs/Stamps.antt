-- Stamps: a word for a polygon's corners, one of 32 bits for each. Two polygons that share a side have a corner in common, and so a bit of their stamps: where
-- the stamps have none in common the two can't be merged, and neither need be looked at. Assumes nothing.
-- Key: `apart_value`.
use Rattle.std.specs.Prelude.{◌≡◌, Bool, ◌≢◌, List, ℕ, zero, suc, ◌/◌, ◌%◌, ◌^◌, ◌<◌, min, max, eqb, length, get_or, None}
use Rattle.std.proofs.Math.Path.{refl}
use Rattle.std.proofs.Common.{ap, ◌∙◌, ⊎_elim, arith, eqb-true, pow_pos}
use Rattle.std.proofs.Math.Bool.{true, false}
use Rattle.std.proofs.Math.Nat.{zero-div, div_self}
use Rattle.std.specs.Int.Bits.{bit_and, bit_or, and_step, or_step}
use Rattle.std.proofs.lemmas.Nat.{and_shr, or_shr, or_comm}
use Rattle.ints.specs.Bools.{and_left}
use Rattle.mem.specs.Cases.{eq_or_ne}
use Rattle.mem.specs.Loops.{each_at}
use Rattle.rules.specs.Lists.{next}
use Rattle.rules.specs.Mesh.{Polygon, polygon_at, side_start, side_end}
use Rattle.rules.specs.Merge.{is_along, is_opposite, is_equal, shared_side, fits, no_pair, pair_at, merge_value}
use Rattle.rules.specs.declared.Vertex.{Vertex}
use Rattle.rules.specs.declared.Pair.{Pair}
use Rattle.laws.proofs.Ring.{next_below}
use Rattle.laws.proofs.Shared.{shared_ind}
use Rattle.laws.specs.Stamps.{stamp_bit, stamp_with, stamp_of}

-- ---- bits

-- bit k of n is set
abbrev Has : ℕ → ℕ → Type 0
Has k n = n / 2 ^ k % 2 ≡ 1

max_one : (y : ℕ) → y < 2 → max 1 y ≡ 1
max_one zero h = refl
max_one (suc zero) h = refl
max_one (suc (suc y)) h = absurd (omega arith)

odd_or : (x y : ℕ) → x % 2 ≡ 1 → bit_or x y % 2 ≡ 1
odd_or x y h =
    let m : max (x % 2) (y % 2) ≡ 1 = rw h (max_one (y % 2) (omega arith)) in
    ap (λ (n : ℕ). n % 2) (or_step x y) ∙ rw m (omega arith)

odd_and : (x y : ℕ) → x % 2 ≡ 1 → y % 2 ≡ 1 → bit_and x y % 2 ≡ 1
odd_and x y h k =
    let m : min (x % 2) (y % 2) ≡ 1 = rw (h, k) refl in
    ap (λ (n : ℕ). n % 2) (and_step x y) ∙ rw m (omega arith)

has_first : (k m n : ℕ) → Has k m → Has k (bit_or m n)
has_first k m n h = ap (λ (x : ℕ). x % 2) (or_shr m n k) ∙ odd_or (m / 2 ^ k) (n / 2 ^ k) h

has_second : (k m n : ℕ) → Has k n → Has k (bit_or m n)
has_second k m n h = rw (or_comm m n) (has_first k n m h)

has_own : (c : ℕ) → Has (c % 32) (stamp_bit c)
unfolding stamp_bit
has_own c = ap (λ (x : ℕ). x % 2) (div_self (pow_pos (c % 32)))

has_both : (k m n : ℕ) → Has k m → Has k n → bit_and m n ≢ 0
has_both k m n h i e =
    let o : bit_and m n / 2 ^ k % 2 ≡ 1 = ap (λ (x : ℕ). x % 2) (and_shr m n k) ∙ odd_and (m / 2 ^ k) (n / 2 ^ k) h i in
    let z : bit_and m n / 2 ^ k % 2 ≡ 0 = rw e (ap (λ (x : ℕ). x % 2) (zero-div (2 ^ k))) in
    omega (arith, o, z)

-- ---- the bit of each corner is in the stamp

stamp_has : (cs : List ℕ) (i : ℕ) → i < length cs → Has (get_or cs i 0 % 32) (stamp_of cs)
unfolding stamp_of stamp_with
stamp_has cs i =
    each_at (stamp_with cs) (λ n s. i < n → Has (get_or cs i 0 % 32) s) (length cs) step 0 (λ (h : i < 0). absurd (omega arith))
  where
    step : (n s : ℕ) → n < length cs → (i < n → Has (get_or cs i 0 % 32) s) → i < suc n → Has (get_or cs i 0 % 32) (stamp_with cs n s)
    step n s k p h =
        ⊎_elim
        (λ (e : n ≡ i). has_second (get_or cs i 0 % 32) s (stamp_bit (get_or cs n 0)) (rw e (has_own (get_or cs i 0))))
        (λ (e : n ≢ i). has_first (get_or cs i 0 % 32) s (stamp_bit (get_or cs n 0)) (p (omega (arith, e))))
        (eq_or_ne n i)

-- ---- stamps with no bit in common

module _ (a b : List ℕ) (apart : bit_and (stamp_of a) (stamp_of b) ≡ 0) where
  -- no corner is in both
  no_corner : (i j : ℕ) → i < length a → j < length b → get_or a i 0 ≢ get_or b j 0
  no_corner i j h k e =
      has_both (get_or a i 0 % 32) (stamp_of a) (stamp_of b) (stamp_has a i h) (rw (ap (λ (c : ℕ). c % 32) e) (stamp_has b j k)) apart

  no_equal : (i j : ℕ) → i < length a → j < length b → is_equal a b i j ≢ true
  unfolding is_equal is_along is_opposite
  no_equal i j h k e = go (is_along a b i j) refl
    where
      go : (t : Bool) → is_along a b i j ≡ t → ⊥
      go true f =
          no_corner i j h k
          (eqb-true (side_start a i) (side_start b j) (and_left (eqb (side_start a i) (side_start b j)) (eqb (side_end a i) (side_end b j)) f))
      go false f =
          let g : is_opposite a b i j ≡ true = rw f at e in
          no_corner i (next j (length b)) h (next_below j (length b) (omega arith))
          (eqb-true (side_start a i) (side_end b j) (and_left (eqb (side_start a i) (side_end b j)) (eqb (side_end a i) (side_start b j)) g))

  apart_side : shared_side a b ≡ None
  apart_side = shared_ind a b (λ s. s ≡ None) refl (λ i j h k e. absurd (no_equal i j h k e))

pub apart_value : (vs : List Vertex) (nvp : ℕ) (ps : List Polygon) (p q : ℕ)
    → bit_and (stamp_of (polygon_at ps p).corners) (stamp_of (polygon_at ps q).corners) ≡ 0 → merge_value vs nvp ps p q ≡ no_pair
unfolding merge_value pair_at
apart_value vs nvp ps p q z = go (fits nvp a b)
  where
    a : List ℕ
    a = (polygon_at ps p).corners

    b : List ℕ
    b = (polygon_at ps q).corners

    go : (t : Bool) → ◌≡◌ {A = Pair} (elim t [ true ↦ pair_at vs ps p q (shared_side a b) | false ↦ no_pair ]) no_pair
    go true = rw (apart_side a b z) refl
    go false = refl
