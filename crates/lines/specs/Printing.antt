-- Laws of what is printed: nothing, one text behind another, the room that each has, and how long numbers are. Assumes nothing.
use Rattle.std.specs.Prelude.{◌≡◌, refl, List, [], ◌∷◌, ◌++◌, ℕ, zero, suc, ◌+◌, ◌*◌, ◌/◌, ◌%◌, ◌≤◌, ◌<◌, ℤ, pos, negsuc, length, set}
use Rattle.std.proofs.Common.{sym, ap, ◌∙◌, ⊎_elim, arith, lt-ltb, le-ltb, length-append}
use Rattle.mem.specs.Slice.{splice, splice_nil, splice_one, splice_append, length_splice}
use Rattle.mem.specs.Cases.{lt_or_le}
use Rattle.mem.specs.Packed.{packed}
use Rattle.rules.specs.Lines.{digits_of, decimal, signed, cell, signed_cell, number_line}
use Rattle.lines.specs.Print.{Room, Printed}

-- ---- nothing, and one text behind another

pub printed_nothing : (v : List ℕ) (at : ℕ) → Printed [] v v at at
printed_nothing v at = record { text = sym (splice_nil v at); next = omega arith }

-- a byte
pub printed_one : (v : List ℕ) (at b : ℕ) → Printed (b ∷ []) v (set v at b) at (at + 1)
printed_one v at b = record { text = sym (splice_one v at b); next = refl }

module _ {a v w : List ℕ} {at m : ℕ} (p : Printed a v w at m) where
  pub printed_same_length : length w ≡ length v
  printed_same_length = ap length p.text ∙ length_splice v at a

  -- the same text, said another way
  pub printed_as : {b : List ℕ} → a ≡ b → Printed b v w at m
  printed_as e = record { text = p.text ∙ ap (splice v at) e; next = p.next ∙ ap (λ (l : List ℕ). at + length l) e }

  pub printed_then : {b x : List ℕ} {n : ℕ} → Printed b w x m n → Printed (a ++ b) v x at n
  printed_then {b} q =
      record {
        text = q.text ∙ rw (p.text, p.next) (splice_append v at a b);
        next = simp length-append (omega (arith, p.next, q.next));
      }

  -- of the room for both, what is left for the second
  pub room_then : (b : List ℕ) → Room v (a ++ b) at → Room w b m
  room_then b r = omega (arith, simp length-append at r, printed_same_length, p.next)

-- for the same text, said another way
pub room_as : {a b : List ℕ} (v : List ℕ) (at : ℕ) → a ≡ b → Room v b at → Room v a at
room_as v at e r = rw e r

pub room_first : (v a b : List ℕ) (at : ℕ) → Room v (a ++ b) at → Room v a at
room_first v a b at r = omega (arith, simp length-append at r)

-- ---- how long numbers are

-- a number by its last digit
pub digits_one : (f n : ℕ) → n ≤ 9 → digits_of (suc f) n ≡ (48 + n) ∷ []
unfolding digits_of
digits_one f n h = let e = lt-ltb n 10 (omega arith) in rw (e, digits_of) refl

pub digits_more : (f n : ℕ) → 9 < n → digits_of (suc f) n ≡ digits_of f (n / 10) ++ ((48 + n % 10) ∷ [])
unfolding digits_of
digits_more f n h = let e = le-ltb n 10 (omega arith) in rw (e, digits_of) refl

digits_short : (f n : ℕ) → length (digits_of f n) ≤ f
unfolding digits_of
digits_short zero n = omega arith
digits_short (suc f) n =
    ⊎_elim
    (λ (a : 9 < n). rw (digits_more f n a) (simp length-append (omega (arith, digits_short f (n / 10)))))
    (λ (a : n ≤ 9). rw (digits_one f n a) (omega arith))
    (lt_or_le 9 n)

pub decimal_short : (n : ℕ) → length (decimal n) ≤ 20
unfolding decimal
decimal_short n = digits_short 20 n

pub signed_short : (z : ℤ) → length (signed z) ≤ 21
unfolding signed
signed_short (pos n) = omega (arith, decimal_short n)
signed_short (negsuc n) = omega (arith, decimal_short (suc n))

pub cell_short : (n : ℕ) → length (cell n) ≤ 21
unfolding cell
cell_short n = omega (arith, decimal_short n)

pub signed_cell_short : (z : ℤ) → length (signed_cell z) ≤ 22
unfolding signed_cell
signed_cell_short z = omega (arith, signed_short z)

pub cells_short : (ns : List ℕ) → length (packed cell ns) ≤ 21 * length ns
unfolding packed
cells_short [] = omega arith
cells_short (n ∷ ns) = simp length-append (omega (arith, cell_short n, cells_short ns))

pub line_short : (name ns : List ℕ) → length (number_line name ns) ≤ length name + 21 * length ns + 1
unfolding number_line
line_short name ns = simp length-append (omega (arith, cells_short ns))
