-- Request 12, as the code has it: the walk over a contour's numbers, one by one, with a stack of those that are left so far. Definitions only.
use Rattle.std.specs.Prelude.{ℕ, zero, suc, ◌+◌, ◌-◌, Bool, true, false, ◌&&◌, List, [], ◌∷◌, ◌++◌, ltb, length, get_or, take}
use Rattle.laws.specs.MendNumbers.{same_place, carried_if, Numbered}

-- the stack of numbers that are left, those that are lost, and the contour's numbers
pub record Passing : Type 0 where
  pub stack : List ℕ
  pub lost : List ℕ
  pub numbers : List ℕ

-- the top of the stack, and the one below it
abbrev pub top_of : List ℕ → ℕ
top_of st = get_or st (length st - 1) 0

abbrev pub second_of : List ℕ → ℕ
second_of st = get_or st (length st - 2) 0

-- ---- the number j is passed: it joins, it is lost after the top, or the top is lost after the second and then j too

unfoldable pub joining : ℕ → Passing → Passing
joining j w = record { stack = w.stack ++ (j ∷ []); lost = w.lost; numbers = w.numbers }

unfoldable pub losing : Bool → ℕ → Passing → Passing
losing writes j w = record { stack = w.stack; lost = w.lost ++ (j ∷ []); numbers = carried_if writes w.numbers (top_of w.stack) j }

unfoldable pub turning : Bool → ℕ → Passing → Passing
turning writes j w =
    let top = top_of w.stack in
    let second = second_of w.stack in
    record {
      stack = take (length w.stack - 1) w.stack;
      lost = (w.lost ++ (top ∷ [])) ++ (j ∷ []);
      numbers = carried_if writes (carried_if writes w.numbers second top) second j;
    }

-- e is past the last number
unfoldable pub pass : Bool → ℕ → ℕ → Passing → Passing
pass writes e j w =
    elim (ltb (length w.stack + (e - j)) 3) [
      | true ↦ joining j w
      | false ↦ elim (same_place w.numbers (top_of w.stack) j) [
        | true ↦ losing writes j w
        | false ↦ elim (ltb 1 (length w.stack) && same_place w.numbers (second_of w.stack) j) [
          | true ↦ turning writes j w
          | false ↦ joining j w
        ]
      ]
    ]

-- ---- the stack, and behind it the numbers that are not yet passed

-- r numbers from j on
unfoldable pub rising : ℕ → ℕ → List ℕ
rising j zero = []
rising j (suc r) = j ∷ rising (suc j) r

-- all that is left when r numbers from j on are not yet passed
unfoldable pub left_of : ℕ → ℕ → Passing → Numbered
left_of j r w = record { left = w.stack ++ rising j r; lost = w.lost; numbers = w.numbers }
