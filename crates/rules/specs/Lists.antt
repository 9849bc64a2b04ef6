-- Words about lists and places that every rule uses. Definitions only.
use Rattle.std.specs.Prelude.{Bool, cond, List, [], ◌∷◌, ◌++◌, ℕ, zero, suc, ◌+◌, ◌-◌, ltb, eqb, leb, length, take, drop, get_or, set, Option, Some, None}

-- `next` and `prev` of math.rs, the places after and before i in a ring of n. There they are (i + 1) % n and (i + n - 1) % n, which for a place
-- i below n is what stands here; no rule asks for another (`Sentences`: `NextIsRemainder`, `PrevIsRemainder`)
unfoldable pub next : ℕ → ℕ → ℕ
next i n = cond (ltb (i + 1) n) (i + 1) 0

unfoldable pub prev : ℕ → ℕ → ℕ
prev i n = cond (leb 1 i) (i - 1) (n - 1)

-- the distance of two naturals (`a - b` is 0 where b is the greater)
unfoldable pub apart : ℕ → ℕ → ℕ
apart a b = (a - b) + (b - a)

-- the place k if the test holds
unfoldable pub when : Bool → ℕ → Option ℕ
when ok k = cond ok (Some k) None

-- the first answer, or else the second
unfoldable pub or_else : Option ℕ → Option ℕ → Option ℕ
or_else (Some k) g = Some k
or_else None g = g

-- `down z op f n`: `f (n - 1)`, `f (n - 2)`, .. down to `f 0`, joined by op, with z at the end (mem's `over` goes up)
module _ {A : Type 0} (z : A) (op : A → A → A) (f : ℕ → A) where
  unfoldable pub down : ℕ → A
  down zero = z
  down (suc k) = op (f k) (down k)

module _ {A : Type 0} where
  -- the list without the element at i: what follows moves down by one
  unfoldable pub without : List A → ℕ → List A
  without l i = take i l ++ drop (i + 1) l

  -- the list without the element at i, whose place the last one takes (d is what a place past the end holds)
  unfoldable pub swap_remove : A → List A → ℕ → List A
  swap_remove d l i = take (length l - 1) (set l i (get_or l (length l - 1) d))

-- how often n stands in the list
unfoldable pub count : ℕ → List ℕ → ℕ
count n [] = 0
count n (x ∷ xs) = cond (eqb x n) 1 0 + count n xs
