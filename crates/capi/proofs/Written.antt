-- Numbers written one after the other into a list of as many places are the whole list. Assumes nothing.
use Rattle.std.specs.Int.{from_bool}
use Rattle.std.specs.Prelude.{Ok, Err}
use mathlib.Core.Path.{◌≡◌, refl, sym, ◌∙◌}
use mathlib.Core.Bool.{Bool, true, false, cond}
use mathlib.Core.List.{List, [], ◌∷◌}
use Prim.Native.Nat.{ℕ, suc, ◌<◌, ◌^◌}
use native.Mathlib.Omega.{arith}
use lib.Dec.{lit<}
use lib.Ieee.{Float}
use lib.ListN.{length, set}
use Rattle.mem.specs.Slice.{splice_whole, set_each, stored_each}
use Rattle.rules.specs.Replies.{Reply, as_built, refusal_number, refusal_second, number_of_reply, second_of, third_of}
use Rattle.rules.specs.Units.{size_in}
use Rattle.rules.specs.declared.Refusal.{Refusal}
use Rattle.rules.specs.declared.Refusal.TheVariants.{BadCornerLimit, CountsDisagree, HighCoordinate, BadFlag, TooManyVertices, ShortBuffer, NoEarInContour, NoEarInHole}
use Rattle.capi.specs.Numbers.{header_length, answer_length, three_length, number_at, header_from, size_number, header_words, answer_words}

module _ {A : Type 0} where
  -- all places from the first on
  pub written : (w : List A) (x : A) (xs : List A) → length w ≡ suc (length xs) → set_each (set w 0 x) 0 1 xs ≡ x ∷ xs
  written w x xs e = stored_each w 0 x xs ∙ splice_whole w (x ∷ xs) (sym e)

-- nine numbers
pub nine : {A : Type 0} (w : List A) (a b c d e f g h i : A) → length w ≡ header_length
    → set (set (set (set (set (set (set (set (set w 0 a) 1 b) 2 c) 3 d) 4 e) 5 f) 6 g) 7 h) 8 i ≡ a ∷ b ∷ c ∷ d ∷ e ∷ f ∷ g ∷ h ∷ i ∷ []
unfolding set_each
nine w a b c d e f g h i l = written w a (b ∷ c ∷ d ∷ e ∷ f ∷ g ∷ h ∷ i ∷ []) l

-- four
pub four : {A : Type 0} (w : List A) (a b c d : A) → length w ≡ answer_length → set (set (set (set w 0 a) 1 b) 2 c) 3 d ≡ a ∷ b ∷ c ∷ d ∷ []
unfolding set_each
four w a b c d l = written w a (b ∷ c ∷ d ∷ []) l

-- three
pub three : {A : Type 0} (w : List A) (a b c : A) → length w ≡ three_length → set (set (set w 0 a) 1 b) 2 c ≡ a ∷ b ∷ c ∷ []
unfolding set_each
three w a b c l = written w a (b ∷ c ∷ []) l

-- a header's numbers, read and written again
pub size_back : (inches : Bool) (x : Float) → size_number (size_in inches x) ≡ x
unfolding size_number size_in
size_back true x = refl
size_back false x = refl

list_nine : (l : List Float) → length l ≡ 9
    → number_at l 0 ∷ number_at l 1 ∷ number_at l 2 ∷ number_at l 3 ∷ number_at l 4 ∷ number_at l 5 ∷ number_at l 6 ∷ number_at l 7 ∷ number_at l 8 ∷ [] ≡ l
unfolding number_at
list_nine (a ∷ b ∷ c ∷ d ∷ e ∷ f ∷ g ∷ h ∷ i ∷ []) l = refl
list_nine [] l = absurd (omega arith)
list_nine (a ∷ []) l = absurd (omega arith)
list_nine (a ∷ b ∷ []) l = absurd (omega arith)
list_nine (a ∷ b ∷ c ∷ []) l = absurd (omega arith)
list_nine (a ∷ b ∷ c ∷ d ∷ []) l = absurd (omega arith)
list_nine (a ∷ b ∷ c ∷ d ∷ e ∷ []) l = absurd (omega arith)
list_nine (a ∷ b ∷ c ∷ d ∷ e ∷ f ∷ []) l = absurd (omega arith)
list_nine (a ∷ b ∷ c ∷ d ∷ e ∷ f ∷ g ∷ []) l = absurd (omega arith)
list_nine (a ∷ b ∷ c ∷ d ∷ e ∷ f ∷ g ∷ h ∷ []) l = absurd (omega arith)
list_nine (a ∷ b ∷ c ∷ d ∷ e ∷ f ∷ g ∷ h ∷ i ∷ j ∷ k) l = absurd (omega arith)

pub header_back : (inches : Bool) (l : List Float) → length l ≡ header_length → header_words (header_from inches l) ≡ l
unfolding header_words header_from
header_back inches l e = rw (size_back inches (number_at l 6)) (list_nine l e)

-- a refusal's number is small
pub number_small : (r : Refusal) → refusal_number r < 2 ^ 32
unfolding refusal_number
number_small (BadCornerLimit n) = lit< tt
number_small CountsDisagree = lit< tt
number_small (HighCoordinate k) = lit< tt
number_small (BadFlag k) = lit< tt
number_small (TooManyVertices n) = lit< tt
number_small (ShortBuffer k) = lit< tt
number_small (NoEarInContour c) = lit< tt
number_small (NoEarInHole i) = lit< tt

-- the answer's four numbers
-- a unit's number is 1 for inches and 0 for millimetres
pub unit_is : (inches : Bool) {u : ℕ} → u ≡ from_bool inches → u ≡ cond inches 1 0
unit_is true e = e
unit_is false e = e

pub built_words : (reply : Reply) (inches : Bool) (n k u : ℕ) → reply ≡ Ok (as_built n k) → u ≡ cond inches 1 0 → 0 ∷ n ∷ k ∷ u ∷ [] ≡ answer_words reply inches
unfolding answer_words number_of_reply second_of third_of
built_words reply inches n k u e f = rw (e, f) refl

pub refused_words : (reply : Reply) (inches : Bool) (r : Refusal) (a b u : ℕ) → reply ≡ Err r → a ≡ refusal_number r → b ≡ refusal_second r → u ≡ cond inches 1 0
    → a ∷ b ∷ 0 ∷ u ∷ [] ≡ answer_words reply inches
unfolding answer_words number_of_reply second_of third_of
refused_words reply inches r a b u e p q f = rw (e, p, q, f) refl

pub built_number : (reply : Reply) (n k : ℕ) → reply ≡ Ok (as_built n k) → 0 ≡ number_of_reply reply
unfolding number_of_reply
built_number reply n k e = rw e refl

pub refused_number : (reply : Reply) (r : Refusal) (a : ℕ) → reply ≡ Err r → a ≡ refusal_number r → a ≡ number_of_reply reply
unfolding number_of_reply
refused_number reply r a e p = rw (e, p) refl
