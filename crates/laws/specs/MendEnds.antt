-- Request 12, as the code has it: once all numbers are passed, the two ends of the stack st. What is left are n of its numbers, from lo on.
-- Definitions only.
use Rattle.std.specs.Prelude.{ℕ, ◌+◌, ◌-◌, Bool, true, false, List, [], ◌∷◌, ◌++◌, ltb, get_or}
use Rattle.mem.specs.Loops.{times}
use Rattle.mem.specs.Slice.{view}
use Rattle.laws.specs.MendNumbers.{same_place, carried_if, Numbered}

-- n numbers of the stack from lo on, those that are lost, and the contour's numbers
pub record Ending : Type 0 where
  pub lo : ℕ
  pub n : ℕ
  pub lost : List ℕ
  pub numbers : List ℕ

unfoldable pub part_of : List ℕ → Ending → Numbered
part_of st w = record { left = view st w.lo w.n; lost = w.lost; numbers = w.numbers }

-- the two numbers at the front, and the two at the back
abbrev pub first_of : List ℕ → Ending → ℕ
first_of st w = get_or st w.lo 0

abbrev pub after_first : List ℕ → Ending → ℕ
after_first st w = get_or st (w.lo + 1) 0

abbrev pub last_of : List ℕ → Ending → ℕ
last_of st w = get_or st (w.lo + (w.n - 1)) 0

abbrev pub before_last : List ℕ → Ending → ℕ
before_last st w = get_or st (w.lo + (w.n - 2)) 0

-- ---- what applies at the ends: the last but one meets the first, the last meets it, or the last meets the one after it

abbrev pub is_near : List ℕ → Ending → Bool
is_near st w = same_place w.numbers (before_last st w) (first_of st w)

abbrev pub is_last : List ℕ → Ending → Bool
is_last st w = same_place w.numbers (last_of st w) (first_of st w)

abbrev pub is_last_two : List ℕ → Ending → Bool
is_last_two st w = same_place w.numbers (last_of st w) (after_first st w)

-- ---- the number q is lost after p, and what is left begins at lo: the first is lost after the last, and the last after the one before it

abbrev pub off : Bool → ℕ → ℕ → ℕ → Ending → Ending
off writes lo p q w = record { lo = lo; n = w.n - 1; lost = w.lost ++ (q ∷ []); numbers = carried_if writes w.numbers p q }

unfoldable pub off_front : Bool → List ℕ → Ending → Ending
off_front writes st w = off writes (w.lo + 1) (last_of st w) (first_of st w) w

unfoldable pub off_back : Bool → List ℕ → Ending → Ending
off_back writes st w = off writes w.lo (before_last st w) (last_of st w) w

-- one turn: what applies at the ends, if anything does
unfoldable pub end_turn : Bool → List ℕ → Ending → Ending
end_turn writes st w = elim (ltb w.n 3) [
  | true ↦ w
  | false ↦ elim (is_near st w) [
    | true ↦ off_front writes st (off_back writes st w)
    | false ↦ elim (is_last st w) [
      | true ↦ off_front writes st w
      | false ↦ elim (is_last_two st w) [
        | true ↦ off_front writes st (off_front writes st w)
        | false ↦ w
      ]
    ]
  ]
]

unfoldable pub ends_by : Bool → ℕ → List ℕ → Ending → Ending
ends_by writes g st w = times (end_turn writes st) g w
