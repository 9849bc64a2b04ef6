-- R4's shared side: what is found is no side, or two equal sides of the two polygons. Assumes nothing.
-- Key: `shared_ind`: what holds of no side, and of any two sides that are equal, holds of what is found.
use Rattle.std.specs.Prelude.{◌≡◌, Bool, cond, List, length, Option, Some, None}
use Rattle.std.proofs.Math.Path.{refl}
use Rattle.std.proofs.Math.Bool.{true, false}
use Prim.Native.Nat.{ℕ, zero, suc, ◌≤◌, ◌<◌}
use Rattle.std.proofs.Common.{arith}
use Rattle.mem.specs.Loops.{over_ind}
use Rattle.rules.specs.Lists.{down}
use Rattle.rules.specs.Merge.{is_equal, sides_at, or_sides, shared_by, shared_side}
use Rattle.laws.specs.Shared.{SidesIn}

module _ (a b : List ℕ) (P : Option (ℕ × ℕ) → Type 0) (none : P None) (some : (i j : ℕ) → i < length a → j < length b → is_equal a b i j ≡ true → P (Some (i, j))) where
  or_ind : (s t : Option (ℕ × ℕ)) → P s → P t → P (or_sides s t)
  unfolding or_sides
  or_ind (Some (i, j)) t p q = p
  or_ind None t p q = q

  at_ind : (i j : ℕ) → i < length a → j < length b → P (sides_at a b i j)
  unfolding sides_at
  at_ind i j h k = go (is_equal a b i j) refl
    where
      go : (t : Bool) → is_equal a b i j ≡ t → P (cond t (Some (i, j)) None)
      go true e = some i j h k e
      go false e = none

  by_ind : (i : ℕ) → i < length a → P (shared_by a b i)
  unfolding shared_by
  by_ind i h = over_ind None or_sides (sides_at a b i) P none or_ind 0 (length b) (λ j z k. at_ind i j h k)

  down_ind : (n : ℕ) → n ≤ length a → P (down None or_sides (shared_by a b) n)
  unfolding down
  down_ind zero h = none
  down_ind (suc n) h = or_ind (shared_by a b n) (down None or_sides (shared_by a b) n) (by_ind n (omega arith)) (down_ind n (omega arith))

  -- what holds of no side, and of any two sides that are equal, holds of what is found
  pub shared_ind : P (shared_side a b)
  unfolding shared_side
  shared_ind = down_ind (length a) (omega arith)

pub shared_in : (a b : List ℕ) → SidesIn (length a) (length b) (shared_side a b)
unfolding SidesIn
shared_in a b = shared_ind a b (SidesIn (length a) (length b)) tt (λ i j h k e. (h, k))

-- the sides that are shared are sides of both
pub shared_at : (a b : List ℕ) (i j : ℕ) → Some (i, j) ≡ shared_side a b → (i < length a) × (j < length b)
unfolding SidesIn
shared_at a b i j e = rw (← e) at (shared_in a b)
