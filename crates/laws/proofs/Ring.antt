-- Places in a ring: the next one and the one before; and the corner that goes when an ear is cut. Assumes nothing.
-- Key: `area_without`: the area of a list is that of the triangle at any place and of the list without the place after it.
use Rattle.std.specs.Prelude.{ℕ, suc, ◌+◌, ◌-◌, ◌%◌, ◌≤◌, ◌<◌, ◌≡◌, refl, ◌≢◌, List, [], ◌∷◌, ◌++◌, length, take, drop, get_or, ◌+ℤ◌}
use Rattle.std.proofs.Common.{mod-eq_of_lt, sym, ◌∙◌, ap, ap₂, ⊎_elim, append-nil, lt-ltb, le-ltb, le-leb, drop_of_length-le, take-suc, drop-cons}
use Rattle.std.proofs.Math.Nat.{mod-eq-sub-mod}
use native.Mathlib.Omega.{arith}
use Rattle.std.proofs.lemmas.Bool.{lt-leb}
use Rattle.std.proofs.Math.Seq.{length-take-le, take_all, take-add, drop_at}
use Rattle.mem.specs.Cases.{lt_or_le}
use Rattle.rules.specs.declared.Point.{Point}
use Rattle.rules.specs.Plane.{D, area}
use Rattle.rules.specs.Lists.{next, prev, without}
use Rattle.rules.specs.Sentences.{NextIsRemainder, PrevIsRemainder}
use Rattle.rules.specs.Outlines.{arc}
use Rattle.laws.proofs.Sides.{area_triangle}
use Rattle.laws.proofs.Outlines.{cut_area_lem}
use Rattle.laws.proofs.Turned.{turned_append, turned_area}

pub next_in : (i n : ℕ) → i + 1 < n → next i n ≡ i + 1
unfolding next
next_in i n h = rw (lt-ltb (i + 1) n h)

pub next_out : (i n : ℕ) → n ≤ i + 1 → next i n ≡ 0
unfolding next
next_out i n h = rw (le-ltb (i + 1) n h)

pub next_below : (i n : ℕ) → 0 < n → next i n < n
next_below i n h = ⊎_elim (λ (k : i + 1 < n). rw (next_in i n k) k) (λ (k : n ≤ i + 1). rw (next_out i n k) h) (lt_or_le (i + 1) n)

pub next_other : (i n : ℕ) → 2 ≤ n → next i n ≢ i
next_other i n h e = ⊎_elim (λ (k : i + 1 < n). omega (arith, next_in i n k)) (λ (k : n ≤ i + 1). omega (arith, next_out i n k)) (lt_or_le (i + 1) n)

-- ---- places as remainders
pub mod_once : (x n : ℕ) → n ≤ x → x < n + n → x % n ≡ x - n
mod_once x n h k = mod-eq-sub-mod h ∙ mod-eq_of_lt (omega arith)

pub next_remainder : NextIsRemainder
next_remainder i n h = ⊎_elim
    (λ (k : i + 1 < n). next_in i n k ∙ sym (mod-eq_of_lt k))
    (λ (k : n ≤ i + 1). next_out i n k ∙ sym (mod_once (i + 1) n k (omega arith) ∙ omega arith))
    (lt_or_le (i + 1) n)

prev_in : (i n : ℕ) → 1 ≤ i → prev i n ≡ i - 1
unfolding prev
prev_in i n h = rw (le-leb 1 i h)

prev_out : (i n : ℕ) → i < 1 → prev i n ≡ n - 1
unfolding prev
prev_out i n h = rw (lt-leb 1 i h)

pub prev_below : (i n : ℕ) → i < n → prev i n < n
prev_below i n h = ⊎_elim
    (λ (k : i < 1). rw (prev_out i n k) (omega arith))
    (λ (k : 1 ≤ i). rw (prev_in i n k) (omega arith))
    (lt_or_le i 1)

pub prev_remainder : PrevIsRemainder
prev_remainder i n h = ⊎_elim
    (λ (k : i < 1). let e : i + n - 1 ≡ n - 1 = omega arith in rw (prev_out i n k, e) (sym (mod-eq_of_lt (omega arith))))
    (λ (k : 1 ≤ i). prev_in i n k ∙ sym (mod_once (i + n - 1) n (omega arith) (omega arith) ∙ omega arith))
    (lt_or_le i 1)

-- ---- an ear, at any place of the ring: cut between the place i and the one after next, c; a is the place between them, which goes
record EarAt {A : Type 0} (l : List A) (d : A) (i a c : ℕ) : Type 0 where
  ear : arc l i c ≡ get_or l i d ∷ (get_or l a d ∷ (get_or l c d ∷ []))
  rest : arc l c i ≡ drop (a + 1) l ++ take a l
  different : i ≢ c

module _ {A : Type 0} (l : List A) (d : A) where
  ahead : (i : ℕ) → i < length l → drop i l ≡ get_or l i d ∷ drop (i + 1) l
  ahead i h = let e : i + 1 ≡ suc i = omega arith in rw e (drop-cons l i d h)

  none_left : (i : ℕ) → length l ≤ i → drop i l ≡ []
  none_left i h = drop_of_length-le l {i = i} h

  first_one : 1 ≤ length l → take 1 l ≡ get_or l 0 d ∷ []
  first_one h = take-suc l 0 d h

  first_two : 2 ≤ length l → take 2 l ≡ get_or l 0 d ∷ (get_or l 1 d ∷ [])
  first_two h = take-suc l 1 d h ∙ ap (λ (s : List A). s ++ (get_or l 1 d ∷ [])) (first_one (omega arith))

  middle : (i : ℕ) → i + 2 < length l → EarAt l d i (i + 1) (i + 2)
  unfolding arc
  middle i h =
      let up = length-take-le i l (omega arith) in
      let p : i + 2 + 1 ≡ i + 3 = omega arith in let q : i + 1 + 1 ≡ i + 2 = omega arith in
      record {
        ear =
            rw (le-leb i (i + 2) (omega arith), p, take-add i 3 l, drop_at (take i l) (take 3 (drop i l)) i up)
            (rw (ahead i (omega arith), ahead (i + 1) (omega arith), q, ahead (i + 2) h) refl);
        rest = rw (lt-leb (i + 2) i (omega arith), q) refl;
        different = λ e. absurd (omega arith);
      }

  last : (i : ℕ) → 0 < i → i + 2 ≡ length l → EarAt l d i (i + 1) 0
  unfolding arc
  last i h k =
      let e = none_left (i + 1 + 1) (omega arith) in
      record {
        ear = rw (lt-leb i 0 h, ahead i (omega arith), ahead (i + 1) (omega arith), e, first_one (omega arith)) refl;
        rest = rw (le-leb 0 i (omega arith), e) refl;
        different = λ e. absurd (omega arith);
      }

  first : (i : ℕ) → 1 < i → i + 1 ≡ length l → EarAt l d i 0 1
  unfolding arc
  first i h k =
      let e = none_left (i + 1) (omega arith) in
      record {
        ear = rw (lt-leb i 1 h, ahead i (omega arith), e, first_two (omega arith)) refl;
        rest = rw (le-leb 1 i (omega arith), take_all (i + 1) l (omega arith)) (sym (append-nil (drop 1 l)));
        different = λ e. absurd (omega arith);
      }

  ear_at : (i : ℕ) → 3 ≤ length l → i < length l → EarAt l d i (next i (length l)) (next (next i (length l)) (length l))
  ear_at i h k = ⊎_elim
      (λ (e : i + 2 < length l). let q : i + 1 + 1 ≡ i + 2 = omega arith in
      rw (next_in i (length l) (omega arith), next_in (i + 1) (length l) (omega arith), q) (middle i e))
      (λ (e : length l ≤ i + 2). ⊎_elim
      (λ (f : i + 1 < length l). rw (next_in i (length l) f, next_out (i + 1) (length l) (omega arith)) (last i (omega arith) (omega arith)))
      (λ (f : length l ≤ i + 1). rw (next_out i (length l) f, next_in 0 (length l) (omega arith)) (first i (omega arith) (omega arith)))
      (lt_or_le (i + 1) (length l)))
      (lt_or_le (i + 2) (length l))

pub area_without : (l : List Point) (i : ℕ) (d : Point) → 3 ≤ length l → i < length l
    → area l ≡ D (get_or l i d) (get_or l (next i (length l)) d) (get_or l (next (next i (length l)) (length l)) d) +ℤ area (without l (next i (length l)))
unfolding without
area_without l i d h k =
    let a = next i (length l) in
    let c = next a (length l) in
    let s = ear_at l d i h k in
    let below = next_below i (length l) (omega arith) in
    sym (cut_area_lem l i c k (next_below a (length l) (omega arith)) s.different)
    ∙ ap₂ ◌+ℤ◌
    (ap area s.ear ∙ area_triangle (get_or l i d) (get_or l a d) (get_or l c d))
    (ap area (s.rest ∙ sym (turned_append (take a l) (drop (a + 1) l) a (length-take-le a l (omega (arith, below))))) ∙ turned_area (without l a) a)
