-- Texts printed one behind the other: what is printed, and then the texts that are left, are the whole. So there is room for the next text, and at the end the
-- whole is printed. Assumes nothing.
-- Key: `Going`, for code that prints one text after the other; `Pieces`, the invariant of a loop that does; `packed_over` for one that goes through a list.
use Rattle.std.specs.Prelude.{◌≡◌, length, get_or, set}
use Rattle.std.proofs.Math.Path.{refl, sym, ap}
use Rattle.std.proofs.Common.{◌∙◌, zero-add, add-zero, suc-add, add-suc}
use mathlib.Core.List.{List, [], ◌∷◌, ◌++◌, append_assoc, append-nil}
use Prim.Native.Nat.{ℕ, zero, suc, ◌+◌, ◌-◌, ◌*◌, ◌≤◌, ◌<◌}
use Rattle.std.proofs.Math.Nat.{sub-zero, suc-mul}
use native.Mathlib.Omega.{arith}
use Rattle.std.proofs.Math.ListN.{length-append}
use Rattle.mem.specs.Loops.{run, over, over_turn, over_end}
use Rattle.mem.specs.Packed.{packed}
use Rattle.lines.specs.Print.{Room, Printed}
use Rattle.lines.specs.Printing.{printed_nothing, printed_one, printed_as, printed_then, printed_same_length, room_then, room_first}

-- ---- a text, and then another

unfoldable pub joined : List (List ℕ) → List ℕ
joined [] = []
joined (t ∷ ts) = t ++ joined ts

-- `whole` is printed from `at` on: v is the slice where that begins, w the slice now, `to` the place behind what is printed, and `texts` are left
pub record Going (whole v : List ℕ) (at : ℕ) (texts : List (List ℕ)) (w : List ℕ) (to : ℕ) : Type 0 where
  pub past : List ℕ
  pub room : Room v whole at
  pub same : whole ≡ past ++ joined texts
  pub printed : Printed past v w at to

pub going_begin : {whole : List ℕ} (texts : List (List ℕ)) (v : List ℕ) (at : ℕ) → whole ≡ joined texts → Room v whole at → Going whole v at texts v at
going_begin texts v at e r = record { past = []; room = r; same = e; printed = printed_nothing v at }

module _ {whole v : List ℕ} {at : ℕ} {w : List ℕ} {to : ℕ} where
  pub going_length : {ts : List (List ℕ)} → Going whole v at ts w to → length w ≡ length v
  going_length g = printed_same_length g.printed

  pub going_end : Going whole v at [] w to → Printed whole v w at to
  unfolding joined
  going_end g = printed_as g.printed (sym (g.same ∙ append-nil g.past))

  module _ {t : List ℕ} {ts : List (List ℕ)} (g : Going whole v at (t ∷ ts) w to) where
    pub going_room : Room w t to
    unfolding joined
    going_room = room_first w t (joined ts) to (room_then g.printed (t ++ joined ts) (rw g.same at g.room))

    pub going_more : {x : List ℕ} {m : ℕ} → Printed t w x to m → Going whole v at ts x m
    unfolding joined
    going_more p =
        record {
          past = g.past ++ t;
          room = g.room;
          same = g.same ∙ sym (append_assoc g.past t (joined ts));
          printed = printed_then g.printed p;
        }

  -- a byte
  module _ {b : ℕ} {ts : List (List ℕ)} (g : Going whole v at ((b ∷ []) ∷ ts) w to) where
    pub going_place : to < length w
    going_place = omega (arith, going_room g)

    pub going_byte : Going whole v at ts (set w to b) (to + 1)
    going_byte = going_more g (printed_one w to b)

  -- the first of two that are said as one
  pub going_parts : {a b t : List ℕ} {ts : List (List ℕ)} → Going whole v at (t ∷ ts) w to → t ≡ a ++ b → Going whole v at (a ∷ (b ∷ ts)) w to
  unfolding joined
  going_parts {a} {b} {t} {ts} g e =
      record {
        past = g.past;
        room = g.room;
        same = g.same ∙ ap (λ (l : List ℕ). g.past ++ l) (ap (λ (l : List ℕ). l ++ joined ts) e ∙ append_assoc a b (joined ts));
        printed = g.printed;
      }

-- ---- a loop

-- the texts f i, f (i + 1), .., f (n - 1)
abbrev pub texts_from : (ℕ → List ℕ) → ℕ → ℕ → List ℕ
texts_from f i n = over [] ◌++◌ f i n

-- The loop over f 0, .., f (n - 1) that prints `whole` from `at` on: i texts are printed
pub record Pieces (f : ℕ → List ℕ) (n : ℕ) (whole v : List ℕ) (at : ℕ) (w : List ℕ) (to i : ℕ) : Type 0 where
  pub within : i ≤ n
  pub long : length w ≡ length v
  pub going : Going whole v at (texts_from f i n ∷ []) w to

pub pieces_none : (f : ℕ → List ℕ) (n : ℕ) {whole v : List ℕ} {at : ℕ} → whole ≡ texts_from f 0 n → Room v whole at → Pieces f n whole v at v at 0
unfolding joined
pieces_none f n {whole} {v} {at} e r =
    record {
      within = omega arith;
      long = refl;
      going = going_begin (texts_from f 0 n ∷ []) v at (e ∙ sym (append-nil (texts_from f 0 n))) r;
    }

module _ {f : ℕ → List ℕ} {n : ℕ} {whole v : List ℕ} {at : ℕ} {w : List ℕ} {to i : ℕ} (p : Pieces f n whole v at w to i) where
  next : i < n → Going whole v at (f i ∷ (texts_from f (i + 1) n ∷ [])) w to
  next h = going_parts p.going (over_turn [] ◌++◌ f i n h)

  -- there is room for the next text
  pub pieces_room : i < n → Room w (f i) to
  pieces_room h = going_room (next h)

  -- it is printed
  pub pieces_more : {x : List ℕ} {m : ℕ} → i < n → Printed (f i) w x to m → Pieces f n whole v at x m (i + 1)
  pieces_more h q =
      record {
        within = omega arith;
        long = printed_same_length q ∙ p.long;
        going = going_more (next h) q;
      }

  pub pieces_all : n ≤ i → Printed whole v w at to
  pieces_all h = going_end (going_more p.going (printed_as (printed_nothing w to) (sym (over_end [] ◌++◌ f i n h))))

-- texts of at most b bytes each
module _ (f : ℕ → List ℕ) (b : ℕ) where
  run_short : (m i : ℕ) → ((j : ℕ) → i ≤ j → j < i + m → length (f j) ≤ b) → length (run [] ◌++◌ f i m) ≤ m * b
  unfolding run
  run_short zero i h = omega arith
  run_short (suc m) i h =
      simp length-append (omega (arith, h i (omega arith) (omega arith), run_short m (suc i) (λ j a c. h j (omega arith) (omega arith)), suc-mul m b))

  pub texts_short : (i n : ℕ) → ((j : ℕ) → i ≤ j → j < n → length (f j) ≤ b) → length (texts_from f i n) ≤ (n - i) * b
  unfolding over
  texts_short i n h = run_short (n - i) i (λ j a c. h j a (omega arith))

-- ---- the texts of a list's elements

module _ {B : Type 0} (enc : B → List ℕ) (d : B) where
  packed_run : (f : ℕ → List ℕ) (i : ℕ) (l : List B) → ((k : ℕ) → f (i + k) ≡ enc (get_or l k d)) → packed enc l ≡ run [] ◌++◌ f i (length l)
  unfolding packed run
  packed_run f i [] h = refl
  packed_run f i (b ∷ l) h =
      let e : f i ≡ enc b = ap f (sym (add-zero i)) ∙ h 0 in
      rw (e, packed_run f (suc i) l (λ k. ap f (suc-add i k ∙ sym (add-suc i k)) ∙ h (suc k))) refl

  pub packed_over : (l : List B) → packed enc l ≡ texts_from (λ k. enc (get_or l k d)) 0 (length l)
  unfolding over
  packed_over l =
      rw (sub-zero (length l)) (packed_run (λ k. enc (get_or l k d)) 0 l (λ k. ap (λ (j : ℕ). enc (get_or l j d)) (zero-add k)))
